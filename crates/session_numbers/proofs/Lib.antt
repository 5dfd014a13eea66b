pub mod Named
pub mod Rules
pub mod Lengths
pub mod Narrow
pub mod Called
pub mod Again
