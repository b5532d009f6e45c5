pub mod Outside
pub mod Made
pub mod Pumping
