pub mod Capped
pub mod Offsets
pub mod Spread
pub mod Samples
