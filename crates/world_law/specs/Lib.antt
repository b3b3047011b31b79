pub mod Answers
pub mod World
pub mod Steps
pub mod Law
pub mod Ties
