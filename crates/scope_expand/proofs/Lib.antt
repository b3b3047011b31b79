pub mod Held
pub mod Joins
pub mod Meanings
pub mod Ones
