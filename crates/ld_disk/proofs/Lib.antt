pub mod Overwrites
pub mod Pieces
pub mod Runs
pub mod Writes
pub mod History
pub mod Calls
pub mod Follows
pub mod Fine
mod Fronts
pub mod Told
