pub mod Lived
pub mod Rounds
