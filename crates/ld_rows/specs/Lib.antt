pub mod Schedules
pub mod Texts
pub mod Told
pub mod Tampered
pub mod ByHand
pub mod Confirmed
