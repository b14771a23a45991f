pub mod CallerLemmas
mod Floats
mod Texts
