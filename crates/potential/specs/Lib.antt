pub mod Potential
pub mod Moderate
