pub mod Statuses
pub mod Exported
