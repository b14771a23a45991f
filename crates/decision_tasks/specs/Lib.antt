pub mod Lines
pub mod Decisions
pub mod Tasks
pub mod Laws
