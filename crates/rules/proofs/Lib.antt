pub mod Clauses
pub mod Scans
