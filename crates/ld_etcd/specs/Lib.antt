pub mod Gateway
pub mod Known
pub mod Request
pub mod Transactions
