pub mod LifeTable
pub mod Lives
pub mod Owed
pub mod Ranks
pub mod Pools
pub mod Leased
pub mod LeaseTable
pub mod LeaseIndex
