pub mod Ready
pub mod Theorems
