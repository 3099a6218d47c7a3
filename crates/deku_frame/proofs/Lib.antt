pub mod Stepping
pub mod Having
pub mod Promise
