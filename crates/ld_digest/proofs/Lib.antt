pub mod Changed
pub mod Placed
pub mod Spending
