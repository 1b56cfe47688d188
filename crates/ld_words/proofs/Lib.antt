pub mod Found
pub mod OneCommand
pub mod Commands
pub mod Refused
pub mod OneAddress
