pub mod Faults
pub mod LentCells
pub mod PlainCells
pub mod SlotNumbers
