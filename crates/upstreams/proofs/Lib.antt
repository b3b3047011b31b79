pub mod MoveLemmas
pub mod UpstreamLemmas
