pub mod Words
pub mod Inside
pub mod Open
pub mod Means
pub mod Deletes
pub mod Upsert
pub mod Lists
pub mod Puts
pub mod Tests
pub mod Trees
pub mod Edits
pub mod Deleted
pub mod Placed
pub mod Loaded
pub mod Asked
pub mod Answered
pub mod Props
pub mod Schemas
pub mod Rising
pub mod Found
pub mod Making
pub mod Made
mod Ordered
mod Refused
