pub mod OwnEntries
pub mod Passes
pub mod Visits
pub mod Seats
pub mod Turns
pub mod Plays
pub mod Steps
