pub mod Bags
pub mod Stores
pub mod Queues
pub mod PlaceLists
pub mod Places
pub mod CursorSteps
pub mod Jobs
