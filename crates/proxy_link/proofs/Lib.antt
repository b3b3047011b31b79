pub mod Additions
pub mod AskLemmas
pub mod Fronts
