pub mod Waits
pub mod Kept
pub mod Soonest
