pub mod Kinds
pub mod Generic
pub mod Charges
pub mod SumKind
pub mod WorstKind
pub mod RankedKind
pub mod Facts
