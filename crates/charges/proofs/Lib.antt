pub mod Contents
pub mod Sums
pub mod Sets
pub mod Counts
pub mod Totals
