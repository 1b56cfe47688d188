pub mod Joining
pub mod Copies
