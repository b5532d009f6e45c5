pub mod Content
pub mod Naming
