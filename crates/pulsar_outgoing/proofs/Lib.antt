pub mod Entries
pub mod PartialSends
