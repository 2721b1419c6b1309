pub mod Ends
pub mod Leaving
pub mod Mesh
pub mod Parts
