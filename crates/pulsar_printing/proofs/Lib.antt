pub mod Errors
pub mod Listed
