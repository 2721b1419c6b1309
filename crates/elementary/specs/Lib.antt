-- The crate's definitions.
pub mod Elementary
