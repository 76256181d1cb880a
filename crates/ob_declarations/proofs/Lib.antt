pub mod Pushed
pub mod Turns
pub mod Blocks
pub mod LeftOut
