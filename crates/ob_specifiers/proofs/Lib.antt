pub mod Declared
pub mod Pieces
pub mod Named
