pub mod Groups
pub mod Mapping
pub mod Quadrature
pub mod Tri3
