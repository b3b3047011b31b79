pub mod Finding
pub mod Issuing
