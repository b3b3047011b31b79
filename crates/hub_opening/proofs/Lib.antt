pub mod Empty
pub mod KeptNames
pub mod Opened
pub mod Scopes
pub mod Loaded
pub mod Numbers
pub mod Sound
mod Changing
mod Fitting
mod Judging
mod Numbering
mod Reading
