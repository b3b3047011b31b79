pub mod Across
pub mod Judged
