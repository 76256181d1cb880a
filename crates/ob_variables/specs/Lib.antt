pub mod BodyView
pub mod Pieces
