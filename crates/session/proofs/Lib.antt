-- each call is the protocol's step: what its answer leaves, what it keeps, what it stands for
pub mod Settles
pub mod Answers
pub mod Listed
pub mod Taking
pub mod Told
pub mod Ids
pub mod Index
pub mod Puts
pub mod Begin
pub mod Lent
pub mod Refines
pub mod Room
pub mod Timeout
pub mod LeftOut
-- what the owner stores
pub mod Queued
pub mod Writers
pub mod Medium
-- the wrong keepers, and the numbers of lower crates
pub mod Sample
pub mod Fresh
pub mod Round
pub mod Keepers
pub mod Numbers
