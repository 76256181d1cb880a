pub mod View
pub mod Shifts
pub mod Statements
