pub mod Numerals
pub mod Inputs
pub mod Examples
mod Theorems
