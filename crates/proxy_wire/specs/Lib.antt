pub mod Heads
pub mod Framing
pub mod Replies
pub mod Upgrades
