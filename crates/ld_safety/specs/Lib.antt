pub mod Closes
pub mod Lost
pub mod OneRun
pub mod OneCopy
pub mod Together
