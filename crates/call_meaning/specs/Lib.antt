pub mod Standing
pub mod Seen
pub mod Medium
pub mod Ended
