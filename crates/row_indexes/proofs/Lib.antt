pub mod ByHash
pub mod Indexed
pub mod MemberKeys
pub mod MemberRows
mod ServerKeys
mod Walked
