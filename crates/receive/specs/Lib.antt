pub mod Speed
pub mod Words
pub mod Call
