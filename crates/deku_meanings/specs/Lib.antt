pub mod Composing
pub mod Shapes
pub mod Collected
