pub mod Columns
pub mod Counting
pub mod Filling
pub mod Putting
pub mod Stretch
pub mod Sums
