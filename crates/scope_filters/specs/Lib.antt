pub mod Admits
pub mod Contexts
pub mod FilterOrder
pub mod FilterSets
pub mod Grants
pub mod Known
pub mod ScopeNames
pub mod Scopes
