pub mod Good
pub mod Counted
