pub mod There
pub mod Parts
pub mod Writes
pub mod Spelling
pub mod Unspelling
