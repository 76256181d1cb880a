pub mod IndexedMembers
pub mod ArgumentRows
pub mod Passed
pub mod WalksOfRules
