pub mod Requests
pub mod Readings
pub mod Asks
