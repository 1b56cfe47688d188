pub mod Appends
pub mod Looks
pub mod Own
pub mod Register
pub mod Whole
pub mod Announcing
