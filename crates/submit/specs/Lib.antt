pub mod Change
pub mod Call
pub mod Mapping
pub mod Queueing
