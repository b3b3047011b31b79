pub mod Arms
pub mod Chains
pub mod Items
pub mod KeptNames
pub mod MomentTexts
pub mod Tokens
