pub mod Growth
pub mod Memory
