pub mod Back
pub mod Names
pub mod Reading
