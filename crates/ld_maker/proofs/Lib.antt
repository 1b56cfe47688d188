pub mod Names
pub mod Bounds
pub mod Counting
