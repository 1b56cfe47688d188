pub mod Settling
pub mod Marking
pub mod Posting
pub mod Begins
mod Notices
pub mod Counting
pub mod Digesting
pub mod Replies
pub mod Spending
pub mod Holding
mod Numbers
mod Sound
mod Told
pub mod Bounded
