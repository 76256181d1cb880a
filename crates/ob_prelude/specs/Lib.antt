pub mod Calls
pub mod Completion
