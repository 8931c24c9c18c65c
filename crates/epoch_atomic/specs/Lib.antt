pub mod Exchanges
pub mod OwnedValues
pub mod Pointers
pub mod Updates
pub mod WordSteps
pub mod Orders
