pub mod Asked
pub mod Forms
pub mod Learning
pub mod Told
