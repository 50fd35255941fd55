pub mod Shapes
pub mod States
