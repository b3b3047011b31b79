mod Found
mod Taken
pub mod Plain
mod Walked
