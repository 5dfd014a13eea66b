pub mod Pieces
pub mod Parts
pub mod Lines
pub mod Vectors
