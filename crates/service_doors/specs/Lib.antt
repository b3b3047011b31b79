pub mod Law
pub mod Tending
