mod Picked
mod Twice
mod Walked
