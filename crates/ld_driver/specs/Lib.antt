pub mod Looked
pub mod Links
