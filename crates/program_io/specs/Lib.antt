pub mod Errors
pub mod Named
pub mod Statuses
