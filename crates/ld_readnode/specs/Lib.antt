pub mod Answered
pub mod Joined
pub mod Payloads
