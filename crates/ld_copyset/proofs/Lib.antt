pub mod Rings
pub mod Choices
pub mod Sets
