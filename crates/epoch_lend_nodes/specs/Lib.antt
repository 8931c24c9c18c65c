pub mod Finding
pub mod Gathering
pub mod Moving
pub mod Nodes
pub mod Placing
pub mod Taking
pub mod Telling
