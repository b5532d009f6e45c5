pub mod Orders
pub mod Unique
pub mod Effects
pub mod Steps
pub mod Arising
pub mod Things
