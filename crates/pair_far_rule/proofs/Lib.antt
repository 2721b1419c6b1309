pub mod Mirror
pub mod Sums
pub mod Symmetric
pub mod Rows
pub mod Points
