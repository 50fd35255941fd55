pub mod Lines
pub mod Numbers
pub mod Calls
pub mod Laws
pub mod Inner
