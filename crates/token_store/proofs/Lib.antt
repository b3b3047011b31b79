pub mod Kept
mod Within
