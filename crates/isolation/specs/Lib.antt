pub mod Sight
pub mod Isolation
