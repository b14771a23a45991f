pub mod Decisions
pub mod Inputs
pub mod Json
pub mod Trace
