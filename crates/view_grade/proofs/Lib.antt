mod Claims
mod Keeping
mod Texts
mod Watching
mod Floats
