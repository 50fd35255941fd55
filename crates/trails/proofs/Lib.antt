pub mod Entries
pub mod Held
pub mod Levels
pub mod Facts
