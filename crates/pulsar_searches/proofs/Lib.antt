pub mod Keys
mod Mentions
