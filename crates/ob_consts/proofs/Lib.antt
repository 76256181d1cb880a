pub mod Numbers
pub mod Placed
pub mod Members
pub mod Rows
pub mod Ends
pub mod Low
pub mod Distances
pub mod Statics
