pub mod CallerLemmas
mod Resolving
mod Steps
mod Replays
mod Worked
mod PackedLevels
