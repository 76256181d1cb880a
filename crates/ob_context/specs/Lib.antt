pub mod Numbered
pub mod KnownView
pub mod Walks
