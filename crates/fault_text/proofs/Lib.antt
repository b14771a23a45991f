mod Near
mod Passing
mod Spotted
pub mod CallerLemmas
