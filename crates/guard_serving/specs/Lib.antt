pub mod Served
pub mod Hall
pub mod Ends
pub mod Runs
