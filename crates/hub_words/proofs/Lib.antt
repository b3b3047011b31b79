pub mod Both
pub mod Found
pub mod Numbers
pub mod Simple
pub mod Taken
