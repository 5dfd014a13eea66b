pub mod Call
pub mod Told
pub mod Keepers
pub mod Writers
