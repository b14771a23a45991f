pub mod Entries
pub mod Answers
pub mod Sessions
