pub mod Barring
pub mod Accepted
pub mod Taking
pub mod Queueing
pub mod Answered
pub mod Settling
