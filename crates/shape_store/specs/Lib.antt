pub mod Store
pub mod Conditions
