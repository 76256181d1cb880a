pub mod DeepestPaths
pub mod Lists
pub mod View
pub mod Reading
pub mod Behind
pub mod Parsed
pub mod ReadTokens
