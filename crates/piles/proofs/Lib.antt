pub mod AlikeLaw
pub mod Pairs
pub mod OpenCharges
pub mod WishCharges
