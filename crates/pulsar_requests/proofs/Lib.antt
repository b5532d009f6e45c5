pub mod Awaiting
pub mod Pendings
pub mod Timed
pub mod Soonest
