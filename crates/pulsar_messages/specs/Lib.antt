pub mod Content
pub mod Words
pub mod Messages
pub mod Murmur
pub mod Laws
pub mod Claims
pub mod Message
pub mod Composed
