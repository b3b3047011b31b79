pub mod Hashes
pub mod Members
pub mod Numbers
pub mod Owned
pub mod Servers
