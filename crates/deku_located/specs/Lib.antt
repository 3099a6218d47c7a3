pub mod Placed
pub mod Locating
