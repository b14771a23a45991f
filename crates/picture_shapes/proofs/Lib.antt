mod Attributing
mod Elements
mod WellFormed
mod Escaping
