pub mod Plans
pub mod Laying
pub mod Joining
pub mod Records
pub mod Known
pub mod Words
pub mod Blocks
