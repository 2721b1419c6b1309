pub mod Bytes
pub mod Rows
pub mod Whole
pub mod Theorems
pub mod Examples
