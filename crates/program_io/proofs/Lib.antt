pub mod CallerLemmas
mod Saying
