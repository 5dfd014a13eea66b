pub mod Readings
pub mod Submissions
pub mod Widths
pub mod Laws
