pub mod Goals
pub mod Grades
pub mod Inputs
pub mod Judging
pub mod Keeping
