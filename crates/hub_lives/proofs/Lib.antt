pub mod Found
pub mod Holders
pub mod Sums
