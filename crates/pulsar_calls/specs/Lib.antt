pub mod Who
pub mod Content
pub mod Parts
pub mod Notices
pub mod News
pub mod Order
pub mod Places
pub mod Steps
