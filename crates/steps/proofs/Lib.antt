pub mod Staged
pub mod Narrowed
pub mod Marking
pub mod Places
pub mod Charged
pub mod Shaped
