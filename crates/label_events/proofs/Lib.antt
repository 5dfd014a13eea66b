pub mod Written
pub mod Planned
pub mod Asked
pub mod Ended
pub mod Received
