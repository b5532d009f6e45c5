pub mod Order
pub mod Run
pub mod Standing
pub mod Laws
pub mod Things
