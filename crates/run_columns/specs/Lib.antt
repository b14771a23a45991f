pub mod Columns
pub mod StepKinds
pub mod Seen
pub mod Sought
pub mod Effects
pub mod Proposals
