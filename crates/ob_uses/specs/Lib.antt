pub mod ArgumentView
pub mod MemberTypes
pub mod Passing
