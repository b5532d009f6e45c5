pub mod Driven
pub mod Links
pub mod Outside
pub mod Parts
pub mod Went
