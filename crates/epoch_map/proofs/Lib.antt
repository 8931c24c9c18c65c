mod Gives
mod Looks
mod Nodes
