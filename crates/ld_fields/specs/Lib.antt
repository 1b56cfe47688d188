pub mod Fields
pub mod Faults
pub mod Items
pub mod Resumed
