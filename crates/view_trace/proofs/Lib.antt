mod Floats
mod Tracing
