pub mod HashLemmas
pub mod PostLemmas
