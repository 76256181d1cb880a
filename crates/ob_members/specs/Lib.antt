pub mod Indexes
pub mod StructuresView
