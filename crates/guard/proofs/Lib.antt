pub mod GuardLemmas
pub mod CarryingLemmas
