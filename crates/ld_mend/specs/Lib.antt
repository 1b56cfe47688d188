pub mod Output
pub mod Lines
pub mod Stops
pub mod Course
pub mod Standing
pub mod Laws
