pub mod Pointees
pub mod Reaches
pub mod Shifts
