mod AllVectors
pub mod CallerLemmas
mod EachVector
mod ReadingValues
mod WorkedVectors
