pub mod LooksKept
pub mod NameNumbers
pub mod Shrinking
