pub mod Laws
pub mod Charged
