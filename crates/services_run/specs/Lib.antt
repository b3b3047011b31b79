pub mod Calls
pub mod Polls
pub mod Rules
pub mod Rounds
pub mod Law
pub mod Book
pub mod New
pub mod Refused
