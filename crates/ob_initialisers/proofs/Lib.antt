pub mod SourceRows
pub mod TypedRows
pub mod Members
