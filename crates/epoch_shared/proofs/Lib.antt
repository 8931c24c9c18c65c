pub mod Showing
pub mod Updates
