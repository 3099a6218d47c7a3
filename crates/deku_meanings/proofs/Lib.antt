pub mod Bytes
pub mod Joining
pub mod Turning
