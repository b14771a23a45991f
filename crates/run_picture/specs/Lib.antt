pub mod Heads
pub mod Opens
pub mod Stopped
pub mod History
pub mod Legends
pub mod Picture
