pub mod Activity
pub mod Bodies
pub mod Names
pub mod Paths
pub mod Queries
pub mod Scopes
pub mod Steps
