pub mod Setting
pub mod Seeing
pub mod Rounds
pub mod Posted
pub mod Jobs
pub mod Lines
pub mod Runs
