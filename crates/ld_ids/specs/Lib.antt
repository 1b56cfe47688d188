pub mod Bytes
pub mod Id
pub mod Set
pub mod Choice
