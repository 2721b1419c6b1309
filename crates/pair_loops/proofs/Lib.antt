pub mod Loops
pub mod Ready
