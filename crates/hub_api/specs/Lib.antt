pub mod Bodies
pub mod Calls
pub mod Names
pub mod Queries
pub mod Readings
pub mod Refusals
