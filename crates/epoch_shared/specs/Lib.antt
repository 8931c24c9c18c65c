pub mod Contents
pub mod Keys
pub mod Parts
pub mod Showing
pub mod Updates
