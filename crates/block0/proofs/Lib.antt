pub mod Written
pub mod Rules
pub mod Judged
pub mod Same
pub mod Coded
