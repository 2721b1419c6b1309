-- The crate's definitions.
pub mod Estimate
