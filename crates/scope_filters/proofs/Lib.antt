pub mod ActionTexts
pub mod Admitted
pub mod Cuts
pub mod FilterRows
pub mod GrantRows
pub mod NameTexts
pub mod ScopeTexts
pub mod ValuePlaces
