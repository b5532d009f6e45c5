pub mod Transitions
pub mod Plan
pub mod Standing
