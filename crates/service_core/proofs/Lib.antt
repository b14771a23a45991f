pub mod CallerLemmas
mod Leaving
mod Stepping
mod Answering
mod Lookups
mod Applying
mod Running
mod Noting
