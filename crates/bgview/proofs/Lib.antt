mod Finding
mod Live
mod Reading
mod Saying
mod Summing
