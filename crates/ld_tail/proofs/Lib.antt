mod Clients
mod Looked
pub mod Onward
mod Tailing
