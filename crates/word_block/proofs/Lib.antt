pub mod Written
pub mod Lent
pub mod Wide
pub mod Same
