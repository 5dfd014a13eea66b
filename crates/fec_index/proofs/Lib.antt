pub mod Paired
pub mod Counted
pub mod Written
pub mod Fecs
