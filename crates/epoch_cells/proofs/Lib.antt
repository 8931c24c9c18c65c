pub mod LentWritings
pub mod PlainCellLists
pub mod SlotNumberLists
mod Keyless
mod Values
mod OfEmptied
