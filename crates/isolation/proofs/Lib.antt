pub mod Picked
pub mod Tokens
pub mod Shares
pub mod Bodies
pub mod Lists
pub mod Calls
pub mod Unseen
pub mod Owning
