pub mod Ranges
pub mod Notes
pub mod Over
pub mod Pieces
pub mod Turns
pub mod Forward
pub mod Backward
pub mod Round
