pub mod Staged
pub mod Steps
