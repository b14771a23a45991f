pub mod Words
pub mod Calls
pub mod Rules
pub mod Json
pub mod Warnings
pub mod Laws
