pub mod Texts
pub mod Scan
pub mod Endings
pub mod Cursors
