pub mod Causes
pub mod Input
pub mod Memory
