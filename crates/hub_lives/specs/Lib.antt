pub mod Lives
pub mod LiveServers
