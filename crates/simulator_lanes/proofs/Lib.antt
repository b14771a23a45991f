pub mod CallerLemmas
mod Apart
mod Hatching
mod Staying
mod Texts
