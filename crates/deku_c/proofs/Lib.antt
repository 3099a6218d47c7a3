pub mod Coding
pub mod Reading
pub mod Writing
pub mod Sizing
pub mod Exporting
mod Naming
