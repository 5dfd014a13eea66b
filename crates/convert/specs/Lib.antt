pub mod Move
pub mod Convert
