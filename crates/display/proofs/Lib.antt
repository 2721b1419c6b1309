pub mod Rounding
pub mod Range
pub mod Theorems
pub mod Examples
