pub mod Culled
pub mod Deletions
pub mod Pages
pub mod Readings
pub mod Requests
pub mod Rounds
