pub mod Change
pub mod Accept
pub mod Ack
pub mod Requests
pub mod Reach
pub mod Receive
pub mod Protect
