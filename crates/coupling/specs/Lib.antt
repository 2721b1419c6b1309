pub mod Coupling
pub mod Block
pub mod Calls
