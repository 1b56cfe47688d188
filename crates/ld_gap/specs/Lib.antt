pub mod Restored
pub mod Shown
pub mod Slots
