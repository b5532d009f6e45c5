pub mod WordText
pub mod ErrorText
pub mod Text
