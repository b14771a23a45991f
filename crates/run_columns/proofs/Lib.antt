pub mod CallerLemmas
mod Choosing
mod Counting
