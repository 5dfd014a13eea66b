pub mod Circle
pub mod Ack
pub mod AckRight
pub mod Distance
pub mod Turn
pub mod Timeout
