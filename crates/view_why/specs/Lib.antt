pub mod Allowing
pub mod Json
pub mod Keeping
pub mod Reported
pub mod Verdicts
pub mod Why
pub mod Words
