pub mod ByteLists
pub mod Members
pub mod Bits
