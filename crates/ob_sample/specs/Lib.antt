-- What samples are.
pub mod Samples
