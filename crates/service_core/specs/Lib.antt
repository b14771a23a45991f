pub mod Replies
pub mod Rooms
pub mod Runs
