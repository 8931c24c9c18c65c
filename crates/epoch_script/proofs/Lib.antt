pub mod Cuts
pub mod ReadNames
pub mod ReadAccesses
pub mod SameSizes
