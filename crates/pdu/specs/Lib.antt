pub mod Pdu
pub mod Split
