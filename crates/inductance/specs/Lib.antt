pub mod Matrix
pub mod Assembly
