pub mod Far
pub mod Framed
