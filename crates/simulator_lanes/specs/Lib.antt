pub mod Layout
pub mod Words
pub mod Lanes
pub mod Turns
pub mod Squares
pub mod Panels
pub mod Proposals
pub mod Unsafe
