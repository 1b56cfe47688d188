pub mod Claims
pub mod Decision
