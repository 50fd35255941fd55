pub mod Digits
pub mod Options
