pub mod Plain
pub mod Fields
pub mod People
pub mod Servers
pub mod Tokens
pub mod Rows
pub mod Items
