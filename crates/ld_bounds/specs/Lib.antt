pub mod Specs
pub mod Nodes
pub mod Registers
pub mod Sequencers
pub mod Readers
pub mod Sound
