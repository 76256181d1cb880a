pub mod Stages
mod Positions
pub mod FewKinds
pub mod Faults
pub mod OneProgram
pub mod SomeProgram
