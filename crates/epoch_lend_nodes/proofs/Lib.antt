pub mod NoBags
pub mod PathsOnly
mod Told
