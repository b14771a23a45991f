pub mod Logs
pub mod Open
pub mod Texts
pub mod Json
pub mod Pasts
pub mod Watched
