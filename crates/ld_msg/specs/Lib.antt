pub mod Choice
pub mod Digest
pub mod Reading
pub mod Network
pub mod Reader
pub mod Register
pub mod Sequencer
pub mod Bounds
