pub mod Joining
pub mod Colons
pub mod Forms
