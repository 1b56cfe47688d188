pub mod Draw
pub mod Event
pub mod Made
pub mod Tally
