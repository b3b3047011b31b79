pub mod Chunked
pub mod Links
pub mod Replies
