pub mod Asked
pub mod Distinct
