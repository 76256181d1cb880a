pub mod FlagLists
pub mod RaisedRows
pub mod Walks
pub mod AssignedRows
pub mod HomeLists
