mod Following
mod Floats
mod Showing
mod Noting
