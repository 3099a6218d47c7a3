pub mod Forms
pub mod Shown
pub mod Refusals
pub mod Runs
