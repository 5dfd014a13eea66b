pub mod Written
pub mod Forms
pub mod Payload
pub mod ReadBack
