pub mod Dialed
pub mod Faults
pub mod Shown
