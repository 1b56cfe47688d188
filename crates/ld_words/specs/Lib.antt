pub mod Grammar
pub mod Meaning
pub mod Refuses
pub mod Bounds
pub mod Parts
