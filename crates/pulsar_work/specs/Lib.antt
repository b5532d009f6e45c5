pub mod Asking
pub mod Calls
pub mod Form
pub mod Progress
pub mod Report
