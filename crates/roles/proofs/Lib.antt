mod AmongKeys
mod Apart
mod Appended
pub mod EachEntry
mod GroupsOf
pub mod Looked
mod RolesOf
mod SharesOf
pub mod Sources
pub mod Walks
