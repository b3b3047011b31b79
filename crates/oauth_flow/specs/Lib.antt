pub mod Asks
pub mod Clients
pub mod Codes
pub mod Trades
