pub mod EndLemmas
pub mod ForwardLemmas
pub mod JoinLemmas
