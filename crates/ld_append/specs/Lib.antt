pub mod Acting
pub mod Appends
pub mod Refusing
pub mod Settled
