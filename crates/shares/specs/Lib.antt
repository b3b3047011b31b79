pub mod Allowed
pub mod Codes
pub mod Granting
pub mod Lists
