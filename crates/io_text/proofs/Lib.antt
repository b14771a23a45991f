mod Numerals
mod Streams
