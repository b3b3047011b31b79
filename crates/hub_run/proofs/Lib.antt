pub mod AnswerLemmas
pub mod CompleteLemmas
pub mod CountLemmas
pub mod EndLemmas
pub mod FaultLemmas
pub mod GainLemmas
pub mod RanLemmas
pub mod RemovedLemmas
mod RoutedLemmas
pub mod StopLemmas
pub mod TurnsLemmas
