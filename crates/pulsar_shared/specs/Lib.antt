pub mod Trace
pub mod Unset
