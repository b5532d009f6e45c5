pub mod History
pub mod Laws
pub mod Lending
pub mod Machine
pub mod Manager
pub mod Series
