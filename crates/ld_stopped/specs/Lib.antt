pub mod Stops
pub mod Output
pub mod Opening
pub mod Shown
pub mod Showing
pub mod Replacing
pub mod Mending
