pub mod Processes
pub mod Reasons
pub mod Misfits
pub mod Shown
pub mod Verdicts
pub mod Tasks
pub mod Reductions
