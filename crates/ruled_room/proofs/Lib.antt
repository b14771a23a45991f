pub mod CallerLemmas
mod Moving
mod Running
mod Turning
mod Sharing
mod Ends
mod Homes
mod Storing
