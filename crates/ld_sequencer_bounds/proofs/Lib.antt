pub mod Posts
pub mod Plans
pub mod Sends
