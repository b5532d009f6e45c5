pub mod Samples
pub mod Tallies
pub mod Jobs
