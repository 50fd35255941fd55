pub mod WishChecks
