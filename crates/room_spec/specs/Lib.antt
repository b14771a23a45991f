pub mod Names
pub mod Rooms
pub mod Sizes
pub mod Texts
pub mod Faults
pub mod Blocks
pub mod Grammar
pub mod Shapes
