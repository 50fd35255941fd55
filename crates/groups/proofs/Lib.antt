pub mod Counting
pub mod GroupChecks
pub mod GroupLaw
