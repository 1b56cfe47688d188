pub mod States
pub mod Messages
