mod AllKinds
mod Beginnings
mod BlockSteps
mod BlockEnds
pub mod CallerLemmas
mod LineLists
mod Numbering
mod Feeding
mod SpecLists
mod BlockLists
mod WorkedInputs
