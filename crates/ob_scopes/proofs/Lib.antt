pub mod Maps
pub mod Chains
pub mod Shown
pub mod Layers
