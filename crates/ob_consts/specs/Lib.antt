pub mod Refusal
pub mod ConstantItems
pub mod ImageAnswers
pub mod Placing
pub mod Shown
