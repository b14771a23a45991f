pub mod CallerLemmas
mod PlaceLemmas
mod WordLemmas
mod Counts
mod Worked
