pub mod Table
pub mod Tlv
pub mod Walk
pub mod Split
pub mod Element
pub mod Prefixes
pub mod Value
