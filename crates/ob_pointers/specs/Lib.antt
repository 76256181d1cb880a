pub mod Pointing
pub mod Kept
pub mod Placing
