pub mod DeepestPaths
pub mod Answer
pub mod ReadTokens
