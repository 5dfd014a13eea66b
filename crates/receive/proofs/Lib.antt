pub mod Messages
pub mod Takes
pub mod Prefixed
pub mod Answered
pub mod Judged
pub mod Taken
