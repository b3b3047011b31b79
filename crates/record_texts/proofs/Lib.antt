pub mod Texts
pub mod Lists
pub mod There
pub mod Leases
pub mod OneText
pub mod KeyTexts
pub mod Cuts
pub mod KnownForms
