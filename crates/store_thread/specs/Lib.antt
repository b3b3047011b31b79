pub mod Told
pub mod Mailbox
pub mod Far
pub mod Runs
