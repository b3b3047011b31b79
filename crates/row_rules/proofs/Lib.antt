pub mod Marks
pub mod Hashed
pub mod Users
pub mod Built
pub mod Way
