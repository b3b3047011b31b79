pub mod Posting
pub mod Running
pub mod Telling
