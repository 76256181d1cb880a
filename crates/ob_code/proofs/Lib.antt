pub mod CodeRanges
pub mod Counts
pub mod Blocks
pub mod Profiles
pub mod Unread
pub mod OneWord
