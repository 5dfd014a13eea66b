pub mod Reading
pub mod Kinds
pub mod Submission
pub mod Storable
