pub mod BlockTrees
pub mod Parts
