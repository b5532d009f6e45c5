pub mod Sent
pub mod Shares
