pub mod Asking
pub mod Posting
pub mod Taking
