pub mod Copyset
