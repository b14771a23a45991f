pub mod Drives
pub mod Results
pub mod Tasks
