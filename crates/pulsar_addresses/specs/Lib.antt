pub mod Address
pub mod Backoff
