pub mod Copied
pub mod Digits
pub mod Vectors
