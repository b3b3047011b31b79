pub mod Fresh
pub mod GroupNames
pub mod Kept
pub mod Owners
pub mod Picked
pub mod RowsAt
pub mod SharesTo
