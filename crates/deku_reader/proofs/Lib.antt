pub mod Moving
pub mod Skips
pub mod Handouts
pub mod WordsRead
pub mod ReaderLaws
pub mod Fetched
pub mod BytesRead
