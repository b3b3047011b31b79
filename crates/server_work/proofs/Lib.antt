mod Ranks
mod Running
mod Taking
mod Driving
pub mod Gaining
mod Waiting
mod Breaking
