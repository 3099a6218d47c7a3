pub mod Riscv
pub mod Words
