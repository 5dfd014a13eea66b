pub mod Pair
pub mod Start
pub mod Demand
pub mod Uncut
pub mod SlotAlone
