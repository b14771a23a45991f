mod Answering
mod Coming
mod Cutting
mod Faulting
mod Feeding
mod Streams
mod Taking
mod Worked
