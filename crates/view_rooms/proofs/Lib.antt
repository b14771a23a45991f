mod Answering
mod Counting
mod Ordering
mod Floats
