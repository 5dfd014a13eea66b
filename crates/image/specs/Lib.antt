pub mod Sizes
pub mod Ring
pub mod State
pub mod Counts
pub mod Verdict
pub mod Events
pub mod Extend
pub mod CountedAlike
