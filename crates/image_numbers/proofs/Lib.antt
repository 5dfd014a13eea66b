pub mod LabelWord
pub mod Requests
pub mod Prefixes
pub mod Extending
pub mod Moved
pub mod Holdings
