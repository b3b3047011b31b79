pub mod Plans
pub mod Syncing
