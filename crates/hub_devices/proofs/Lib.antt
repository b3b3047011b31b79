pub mod CallLemmas
pub mod RouteLemmas
pub mod RunningLemmas
pub mod StreamLemmas
