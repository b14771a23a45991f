mod Lookups
mod Following
mod Noting
mod RunBlock
mod Writing
mod Looking
