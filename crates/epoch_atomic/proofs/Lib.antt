pub mod PointerNumbers
