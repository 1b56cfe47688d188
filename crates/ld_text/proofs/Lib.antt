pub mod Judging
pub mod Stepping
pub mod Turning
