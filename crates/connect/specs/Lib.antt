pub mod Start
pub mod Writers
pub mod Answered
