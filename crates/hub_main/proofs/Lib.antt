pub mod Unknown
pub mod Moved
pub mod Books
pub mod Configurations
pub mod Passes
pub mod Commands
pub mod GoodSessions
