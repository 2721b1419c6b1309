pub mod QuadraturePoints
