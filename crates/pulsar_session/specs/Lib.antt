pub mod Answers
pub mod Link
pub mod Greeting
pub mod Kept
pub mod Laws
pub mod Series
pub mod Soonest
