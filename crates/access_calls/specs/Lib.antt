pub mod CodeCalls
pub mod GrantCalls
pub mod ShareCalls
pub mod TokenCalls
