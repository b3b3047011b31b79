pub mod KitLemmas
pub mod StatusLemmas
