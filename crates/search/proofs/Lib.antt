pub mod Checking
pub mod Choosing
pub mod Led
pub mod Stepping
