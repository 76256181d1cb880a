pub mod Powers
pub mod Splices
pub mod Bytes
pub mod Reading
pub mod Writing
pub mod Lists
