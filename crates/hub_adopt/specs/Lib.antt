pub mod Adopting
pub mod Found
