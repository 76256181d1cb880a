-- What the crates above cite: congruence, conversions, ranges, writes to fields, divisions.
pub mod Congruence
pub mod Conversions
pub mod Ranges
pub mod Writes
pub mod Divisions
pub mod Bits
-- What the code computes.
mod Machine
mod Operations
mod Blocks
mod Bytes
