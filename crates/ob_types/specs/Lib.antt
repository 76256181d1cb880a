pub mod FileView
pub mod Answered
