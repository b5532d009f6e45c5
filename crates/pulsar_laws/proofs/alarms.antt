pub mod Rung
