pub mod Bodies
pub mod Asks
