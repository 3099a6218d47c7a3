pub mod Cells
pub mod Names
pub mod Drawn
