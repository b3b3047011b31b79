pub mod Results
pub mod ShareTexts
