pub mod Signs
pub mod Bounded
pub mod Patterns
pub mod Theorems
