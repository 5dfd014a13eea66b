pub mod Kept
pub mod Answers
pub mod Moved
pub mod Converted
pub mod Upgraded
