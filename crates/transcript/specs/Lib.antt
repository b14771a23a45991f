pub mod Faults
pub mod Grammar
pub mod Lines
pub mod Runs
pub mod Tasks
pub mod Reductions
