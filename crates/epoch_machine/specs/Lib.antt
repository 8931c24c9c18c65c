pub mod Asks
pub mod Machine
