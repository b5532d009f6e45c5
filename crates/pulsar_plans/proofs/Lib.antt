pub mod Saying
pub mod Arcs
