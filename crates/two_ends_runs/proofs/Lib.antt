pub mod Opened
pub mod Computed
pub mod Media
pub mod PowerCut
pub mod Rounds
pub mod Undone
