pub mod Calls
pub mod Entries
pub mod Listings
pub mod Queries
pub mod Texts
pub mod Api
