pub mod CallerLemmas
mod OrdinaryBlocks
mod OtherInputs
mod ReadingBlocks
mod RoomBlocks
mod RunBlocks
mod WorkedBlocks
