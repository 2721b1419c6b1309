pub mod Theorems
pub mod Halving
