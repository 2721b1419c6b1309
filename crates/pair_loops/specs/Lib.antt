pub mod Additions
pub mod Ready
