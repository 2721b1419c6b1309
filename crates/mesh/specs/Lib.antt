pub mod Columns
pub mod Conditions
pub mod Mesh
