pub mod Pick
pub mod Be
pub mod Bytes
pub mod Laid
pub mod Part
pub mod Fix
pub mod Differ
