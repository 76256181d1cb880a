pub mod Codes
pub mod Members
pub mod Filled
