mod Tracking
mod Alone
mod Own
mod Breaking
mod Explaining
mod WorkedReasons
mod Runs
mod Showing
mod Feeding
pub mod CallerLemmas
mod NamedRooms
mod Judged
mod RoomLists
mod SaidLines
mod Rows
mod Tallies
mod Certifying
mod Counting
