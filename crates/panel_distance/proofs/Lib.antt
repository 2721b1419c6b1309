pub mod Theorems
pub mod Boxes
