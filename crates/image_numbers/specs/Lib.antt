pub mod Contents
pub mod Stored
pub mod Converting
