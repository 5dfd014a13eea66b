pub mod Laws
pub mod Circle
pub mod AckRight
pub mod Signed
pub mod Timeouts
pub mod Turns
