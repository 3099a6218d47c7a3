pub mod Placing
pub mod Showing
