pub mod States
pub mod Faults
pub mod Lies
pub mod Stands
pub mod Standing
pub mod Done
