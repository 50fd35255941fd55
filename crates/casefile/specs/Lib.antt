pub mod Faults
pub mod Format
pub mod Files
pub mod Fields
pub mod Bytes
pub mod Laws
pub mod Inner
pub mod Facts
