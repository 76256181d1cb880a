pub mod Objects
pub mod Nodes
pub mod Trees
pub mod Turned
pub mod Spread
pub mod Arena
