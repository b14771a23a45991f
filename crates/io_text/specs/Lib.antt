pub mod Devices
pub mod Ends
pub mod Numbers
pub mod Reading
pub mod Writing
