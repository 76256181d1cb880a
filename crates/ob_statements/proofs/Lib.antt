pub mod StmtRows
pub mod BlockRows
pub mod Turns
pub mod Arms
