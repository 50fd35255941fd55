pub mod Rows
pub mod Learned
pub mod Conditions
