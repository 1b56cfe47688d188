pub mod Writing
pub mod Openings
pub mod Telling
pub mod Told
pub mod Swapping
pub mod Mendings
