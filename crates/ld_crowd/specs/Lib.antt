pub mod Calls
pub mod Course
pub mod Left
pub mod Memory
pub mod Serving
