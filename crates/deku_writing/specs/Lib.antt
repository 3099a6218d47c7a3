pub mod Composing
pub mod Words
