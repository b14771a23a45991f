pub mod Listing
pub mod Texts
pub mod Json
pub mod Shown
pub mod Rooms
pub mod Blocks
