pub mod Language
pub mod Refusals
