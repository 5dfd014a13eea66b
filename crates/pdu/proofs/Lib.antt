pub mod Message
pub mod Count
pub mod Split
