mod PathsGrown
mod PathSteps
mod Touched
mod StackFitting
mod StackNextPhases
mod StackTelling
mod StackTries
mod QueueFitting
mod QueueNextPhases
mod QueueTelling
mod QueueTries
pub mod MapFitting
mod MapTelling
mod HandInHand
mod Looking
mod Passing
mod Strides
