pub mod Asked
pub mod Answers
pub mod State
pub mod History
pub mod Kept
pub mod Stands
pub mod Laws
