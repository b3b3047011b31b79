pub mod Kept
pub mod Opening
pub mod Changing
pub mod Adopting
