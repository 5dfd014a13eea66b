pub mod State
pub mod Storing
pub mod Outcomes
pub mod Further
pub mod Freeing
