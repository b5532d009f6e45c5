pub mod Storage
pub mod Batch
pub mod Wanted
pub mod Errors
pub mod Replies
