mod StackNodes
mod QueueNodes
