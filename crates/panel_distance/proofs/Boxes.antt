-- The distance of two boxes that are kept is that of the triangles' boxes.
use mathlib.Core.Path.{◌≡◌, refl}
use Rattle.tri.specs.Mapping.{Tri}
use Rattle.panel_distance.specs.Distance.{bounds, gap, gap_between, bounds_distance_squared, triangle_aabb_distance_squared}

pub bounds_apart : (a b : Tri) → bounds_distance_squared (bounds a) (bounds b) ≡ triangle_aabb_distance_squared a b
unfolding bounds gap gap_between bounds_distance_squared triangle_aabb_distance_squared
bounds_apart a b = refl
