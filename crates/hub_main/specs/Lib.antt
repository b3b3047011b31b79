pub mod Told
pub mod Ends
pub mod Configured
pub mod Known
pub mod Opened
pub mod Served
pub mod Sessions
pub mod Good
