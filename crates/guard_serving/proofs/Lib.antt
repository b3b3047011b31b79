pub mod RunLemmas
pub mod GuardLemmas
