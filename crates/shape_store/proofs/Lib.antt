pub mod Found
pub mod Places
pub mod Calls
pub mod Shapes
mod Theorems
mod Examples
