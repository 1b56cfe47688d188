pub mod Talks
pub mod Writing
pub mod Hearing
pub mod Waiting
