pub mod CallerLemmas
mod Commands
mod Followed
mod OwnBlocks
mod Playing
mod Scripts
