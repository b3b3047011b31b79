pub mod Finds
pub mod KeyTexts
