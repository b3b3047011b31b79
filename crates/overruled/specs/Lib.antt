pub mod Overruled
