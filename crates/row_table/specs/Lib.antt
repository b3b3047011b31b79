pub mod Open
pub mod Ours
pub mod Shown
pub mod Stored
pub mod Tables
pub mod Texts
pub mod Unread
