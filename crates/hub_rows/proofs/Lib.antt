pub mod InOrder
mod Places
