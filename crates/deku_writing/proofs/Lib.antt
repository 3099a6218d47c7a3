pub mod ByteRuns
pub mod WritingEach
pub mod WordsEach
pub mod WritingTwo
pub mod WordsJoined
