pub mod Apart
pub mod Attended
pub mod Ready
pub mod Planned
pub mod Lawful
pub mod GoodHubs
