pub mod Transitions
pub mod Closing
pub mod Question
pub mod Replies
pub mod Plans
