pub mod Members
pub mod TextLemmas
