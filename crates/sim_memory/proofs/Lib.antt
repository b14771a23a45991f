pub mod CallerLemmas
mod Apart
mod Columns
mod Greatest
mod Merging
mod Rows
mod Words
mod Worked
mod TwoWords
mod WholeRows
