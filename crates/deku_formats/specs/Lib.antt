pub mod Ccsds
pub mod Checksum
