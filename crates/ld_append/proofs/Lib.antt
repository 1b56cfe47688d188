mod Appending
mod Clients
mod Crowding
mod Ending
mod Filling
mod Keeping
pub mod Onward
mod Rounding
mod Saying
mod Serving
