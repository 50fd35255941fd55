pub mod Force
pub mod Scans
