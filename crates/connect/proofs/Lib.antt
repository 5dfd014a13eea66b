pub mod Started
pub mod Written
