mod CutLemmas
pub mod PathsOf
