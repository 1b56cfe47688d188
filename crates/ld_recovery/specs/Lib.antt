pub mod Marks
pub mod Planning
pub mod Sending
pub mod Recovering
pub mod Stages
pub mod States
