pub mod Items
pub mod Params
pub mod SameTypes
