pub mod RawCall
pub mod Request
pub mod Messages
pub mod Refusals
