pub mod ShareOrder
pub mod RowKeys
pub mod Counters
pub mod ClientIds
pub mod SharedScopes
