pub mod Idle
pub mod Timing
pub mod Moments
pub mod Ringing
