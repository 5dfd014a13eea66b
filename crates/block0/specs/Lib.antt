pub mod Layout
pub mod Fields
pub mod Coded
pub mod Updates
