pub mod Choosing
pub mod Deciding
pub mod Ordering
pub mod Planning
pub mod Tops
