pub mod Lowering
pub mod OpenReading
pub mod WishReading
pub mod Examples
