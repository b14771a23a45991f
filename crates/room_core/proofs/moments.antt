pub mod Shown
pub mod Collects
pub mod Sums
pub mod Collecting
pub mod Moments
pub mod Contents
pub mod Visits
pub mod Busy
