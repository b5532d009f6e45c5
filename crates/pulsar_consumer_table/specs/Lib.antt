pub mod Consumers
pub mod Notices
pub mod Asks
pub mod KeptConsumers
