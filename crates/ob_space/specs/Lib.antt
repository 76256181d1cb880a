pub mod Loaded
pub mod Accesses
pub mod Granules
pub mod Kept
pub mod Reached
