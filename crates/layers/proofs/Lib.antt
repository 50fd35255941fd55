pub mod Accepting
pub mod Filling
pub mod Keeping
pub mod OpenLaw
pub mod Reading
