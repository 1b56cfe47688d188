pub mod Hearing
pub mod Reading
pub mod Reads
pub mod Writes
