pub mod Bindings
pub mod Newest
pub mod Kept
pub mod Names
pub mod Tags
