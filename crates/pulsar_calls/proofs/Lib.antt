pub mod Lists
pub mod Counted
pub mod Parting
pub mod Places
pub mod Fronts
