pub mod Writes
pub mod Links
pub mod Framed
pub mod Calls
pub mod Kept
pub mod Leaving
pub mod Examples
pub mod Laws
