pub mod CallerLemmas
mod Pieces
