mod Revoked
mod Walked
