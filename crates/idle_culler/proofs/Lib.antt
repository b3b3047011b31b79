pub mod Additions
pub mod Fronts
pub mod LoopLemmas
pub mod PageLemmas
pub mod ReadLemmas
pub mod RoundLemmas
