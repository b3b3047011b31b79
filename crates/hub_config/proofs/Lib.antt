pub mod Made
pub mod Bytes
pub mod Pools
mod Distinct
pub mod Refusals
