pub mod TokenLemmas
pub mod TurnLemmas
