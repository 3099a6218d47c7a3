pub mod Elf
pub mod Following
