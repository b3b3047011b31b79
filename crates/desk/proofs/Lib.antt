pub mod Prefixes
pub mod OwnEntries
mod There
mod Turning
