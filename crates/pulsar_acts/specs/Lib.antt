pub mod Tables
pub mod View
pub mod Rules
pub mod Reading
pub mod Effects
pub mod Run
pub mod Things
