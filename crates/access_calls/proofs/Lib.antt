pub mod CodeCalls
pub mod GrantCalls
pub mod ShareCalls
pub mod TokenCalls
pub mod Traded
mod Ruling
