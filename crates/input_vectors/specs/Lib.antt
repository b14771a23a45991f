pub mod Lines
pub mod Judged
pub mod Values
pub mod Vectors
