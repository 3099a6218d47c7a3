pub mod Ahead
pub mod Cutting
pub mod Early
pub mod Lists
pub mod Limits
