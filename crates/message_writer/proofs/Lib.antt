pub mod Room
pub mod Puts
pub mod Append
pub mod Raised
pub mod Protected
pub mod Kept
pub mod Own
pub mod RoundTrip
