mod Residue
pub mod Coming
pub mod Delivering
pub mod Caused
mod Numbers
pub mod Rows
pub mod Determined
pub mod Checked
pub mod Makers
mod Texts
