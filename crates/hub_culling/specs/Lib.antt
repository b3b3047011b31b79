pub mod Ends
pub mod Runs
pub mod Scenes
pub mod Tokens
pub mod Turns
