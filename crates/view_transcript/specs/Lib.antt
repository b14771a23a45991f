pub mod Courses
pub mod Transcripts
