pub mod CookieLemmas
pub mod LawLemmas
pub mod LoginLemmas
pub mod EntryLemmas
