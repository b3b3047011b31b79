pub mod Access
pub mod Denials
pub mod Guards
pub mod Carrying
