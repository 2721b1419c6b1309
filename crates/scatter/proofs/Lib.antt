pub mod Cells
pub mod Steps
pub mod Links
pub mod Rows
pub mod Mirror
pub mod Misses
pub mod Renewals
pub mod Flags
pub mod Few
mod Theorems
