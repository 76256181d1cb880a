pub mod CheckedView
pub mod Gives
