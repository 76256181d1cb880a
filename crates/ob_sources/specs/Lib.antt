pub mod Stages
pub mod Positions
pub mod Reading
