pub mod HomesView
pub mod Flags
