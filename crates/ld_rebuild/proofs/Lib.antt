pub mod Askings
pub mod LowestMissing
pub mod Refills
pub mod Uncleans
