pub mod Layout
pub mod Spelling
pub mod Rules
pub mod Instructions
pub mod Reading
pub mod Faults
