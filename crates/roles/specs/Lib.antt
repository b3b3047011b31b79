pub mod Lending
pub mod Looks
pub mod Naming
pub mod Received
pub mod Rights
pub mod Sources
