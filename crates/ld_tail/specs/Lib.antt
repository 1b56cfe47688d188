pub mod Looking
pub mod Readers
pub mod Tails
