pub mod Endings
pub mod Words
pub mod Accesses
pub mod Lines
pub mod Sizes
