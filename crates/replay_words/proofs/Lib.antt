pub mod Lent
pub mod Copy
pub mod Comparing
pub mod Outcomes
