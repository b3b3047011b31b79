pub mod LineLemmas
pub mod NameLemmas
pub mod ReplyLemmas
pub mod StepLemmas
