mod Certain
mod Floats
