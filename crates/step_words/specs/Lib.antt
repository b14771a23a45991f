pub mod Pieces
pub mod Names
pub mod Sights
pub mod Data
pub mod Json
pub mod Lines
pub mod Reported
