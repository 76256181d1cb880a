pub mod Indexes
pub mod Zeros
