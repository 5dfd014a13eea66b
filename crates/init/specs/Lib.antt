pub mod Received
pub mod Fitting
