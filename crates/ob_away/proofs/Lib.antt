pub mod Positions
pub mod Pairs
pub mod Names
pub mod FreeSlots
pub mod Vacant
pub mod Linked
pub mod Changes
