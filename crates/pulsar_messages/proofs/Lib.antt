pub mod Copies
pub mod PutProperty
