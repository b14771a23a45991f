pub mod Chances
pub mod Drawn
pub mod Groups
pub mod Parts
pub mod Samples
pub mod Schedules
pub mod Shown
pub mod Ways
