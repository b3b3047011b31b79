pub mod Direct
pub mod Answered
pub mod Verdicts
pub mod Decided
