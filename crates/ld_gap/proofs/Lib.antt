pub mod Places
pub mod SlotTables
