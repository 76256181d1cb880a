pub mod Types
pub mod Conversion
pub mod Operators
pub mod Words
pub mod Fields
