pub mod Gathering
pub mod Added
