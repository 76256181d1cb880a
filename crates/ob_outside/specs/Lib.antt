pub mod Digits
pub mod Granules
