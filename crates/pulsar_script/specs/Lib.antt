pub mod WrittenRaw
pub mod Written
