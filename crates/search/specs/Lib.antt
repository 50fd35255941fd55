pub mod Stands
pub mod Replies
pub mod Histories
pub mod Verdicts
pub mod Inner
