pub mod Texts
pub mod Hexadecimal
pub mod Outputs
pub mod Told
