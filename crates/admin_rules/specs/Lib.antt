pub mod Groups
pub mod Purges
pub mod Roles
pub mod Rules
pub mod Services
pub mod Users
pub mod Servers
