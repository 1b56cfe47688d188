pub mod Roles
pub mod Frames
pub mod Judging
pub mod Faults
pub mod Held
pub mod Streams
