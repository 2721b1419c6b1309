pub mod CurrentDensity
pub mod QuadraturePoints
pub mod Identity
