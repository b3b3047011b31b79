pub mod Causes
pub mod Forms
pub mod Own
pub mod Statements
