pub mod Refusals
pub mod Calling
-- what the owner stores, block by block
pub mod Slots
-- a state that is stored
pub mod Putting
pub mod Stands
pub mod Answered
pub mod Refining
-- the stores that an outcome tells
pub mod Written
pub mod Stored
