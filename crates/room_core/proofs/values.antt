pub mod Entries
pub mod OwnValues
pub mod SmallValues
pub mod Known
pub mod Knowing
pub mod LowValues
