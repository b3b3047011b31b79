pub mod Fronts
pub mod OnLiterals
pub mod ReadScopes
pub mod Segments
pub mod Texts
pub mod Truths
pub mod Turns
