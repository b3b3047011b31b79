pub mod Trees
pub mod Saying
pub mod Reading
pub mod Words
pub mod Names
pub mod Asked
