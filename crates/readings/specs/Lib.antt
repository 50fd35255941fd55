pub mod Readings
pub mod Examples
