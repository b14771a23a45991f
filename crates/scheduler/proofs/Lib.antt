mod Stepwise
mod Bounds
mod Costs
mod Rounds
mod Visits
mod Returning
mod Dealing
mod Ending
