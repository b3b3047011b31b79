pub mod QuietLemmas
pub mod RoundLemmas
pub mod LawLemmas
pub mod HaltLemmas
pub mod LivedLemmas
pub mod NewLemmas
