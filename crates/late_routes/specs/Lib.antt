pub mod Plans
pub mod Arrivals
