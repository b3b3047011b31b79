pub mod Rows
pub mod RowOrder
pub mod Held
pub mod Pasts
pub mod Costs
