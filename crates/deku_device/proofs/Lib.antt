pub mod Parts
pub mod Wholes
pub mod Failures
pub mod Transfers
pub mod Laying
pub mod Ends
