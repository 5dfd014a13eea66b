pub mod Starts
pub mod Fitting
pub mod Stored
pub mod Received
