pub mod Lines
pub mod Numbers
pub mod Printed
pub mod Producers
pub mod Consumers
pub mod Folds
