pub mod Order
pub mod FirstGap
pub mod Edits
pub mod Taken
pub mod HintsHold
