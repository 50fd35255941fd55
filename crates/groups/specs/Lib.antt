pub mod Groups
pub mod GroupViews
pub mod GroupLaws
pub mod Facts
