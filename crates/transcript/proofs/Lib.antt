pub mod CallerLemmas
mod Events
mod Cutting
mod Fields
mod Rows
mod Histories
mod Runs
mod Agreeing
mod Singly
mod Worked
mod WorkedRuns
mod WorkedReductions
mod WorkedTasks
mod Writing
mod FirstFault
mod Differences
