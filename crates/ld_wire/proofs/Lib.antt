pub mod Sizes
pub mod Spelling
pub mod Unspelling
pub mod Judges
pub mod Streams
pub mod Bounds
