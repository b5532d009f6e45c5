pub mod Script
pub mod Shown
pub mod Choice
pub mod Demo
pub mod Form
pub mod Played
pub mod Asked
