pub mod Numbers
pub mod Requests
pub mod Hashes
pub mod Posts
