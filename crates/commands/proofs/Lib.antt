mod Splits
mod Digits
mod Taken
mod Spaces
