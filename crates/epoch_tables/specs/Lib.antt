pub mod Table
pub mod TableSteps
pub mod SharedPlaces
pub mod SharedSteps
pub mod ClosedPlaces
pub mod Ends
