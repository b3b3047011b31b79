pub mod Refusals
pub mod Passes
pub mod Forward
pub mod Telling
