pub mod Levels
pub mod Phases
