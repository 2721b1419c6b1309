-- boundary_element/mod.rs: the definitions of mesh_points, passed on under the name of this crate.
unfoldable pub use Rattle.mesh_points.specs.QuadraturePoints.{quadrature_point, quadrature_weight, mesh_points, mesh_weights, points_refusal}
pub use Rattle.mesh_points.specs.QuadraturePoints.{point_columns_differ, point_checks, rule_refusal, PointsNumbered, points_due, weights_due, StoredPoint, Within, Run, PointsReady, PointsWritten, Points, PointsBy}
