pub mod Wishes
pub mod WishViews
pub mod Facts
