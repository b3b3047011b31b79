pub mod Givens
pub mod ShiftLemmas
pub mod SessionLemmas
pub mod SentNames
pub mod SentRows
pub mod SentState
pub mod SentBook
pub mod SentPasses
