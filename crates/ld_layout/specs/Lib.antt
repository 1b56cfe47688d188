pub mod Areas
pub mod Layout
pub mod Base
pub mod LaidOut
