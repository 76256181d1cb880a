pub mod StackWrites
pub mod Granules
pub mod CallLists
pub mod Entering
pub mod Changing
pub mod Nesting
pub mod Locals
