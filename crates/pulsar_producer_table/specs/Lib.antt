pub mod Takers
pub mod Producers
pub mod Multis
pub mod Notices
pub mod KeptProducers
pub mod KeptMultis
pub mod Asks
