pub mod Check
pub mod Endings
pub mod Ends
pub mod Modes
pub mod Play
pub mod Run
pub mod Said
