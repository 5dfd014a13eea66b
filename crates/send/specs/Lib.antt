pub mod Aborted
pub mod Send
