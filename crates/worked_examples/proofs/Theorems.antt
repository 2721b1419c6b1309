-- The bench sheet: each fact is computed from the definitions; no lemma stands between.
use mathlib.Core.Path.{refl}
use lib.Ieee.{neg, of_bits, to_bits, add, sub, mul, div, lt, le, is_nan}
use Rattle.ieee754.specs.Ieee754.{fma, sqrt, min, max, clamp}
use Rattle.binary64.specs.Operations.{square_root}
use Rattle.math.specs.Math.{norm3, dot3, cross3, sub3, add_scaled3}
use Rattle.tri.specs.Mapping.{area, raw_normal}
use Rattle.tri.specs.Tri3.{closest_point, exits_from_second, exits_from_fourth, exits_from_sixth}
use Rattle.refusal.specs.Checks.{first, after}
use Rattle.lists.specs.Counting.{some_below, any_of, count_below}
use Rattle.lists.specs.Filling.{tabulate_from}
use Rattle.mesh.specs.Mesh.{mesh_refusal, mesh_checks, lengths_differ, passes_limits, misses_node, is_zero_area, edge_sq, quality, is_poor, poor_panels, tested_count}
use Rattle.boundary_element.specs.Identity.{points_match, matches_corner, triangles_identical}
use Rattle.panel_distance.specs.Distance.{distance_squared, point_triangle_distance_squared, line_parameter, offset_squared, kept_offset_squared, segment_distance_squared, least_of_corners, least_of_edges, triangle_distance_squared, lowest, highest, gap, triangle_aabb_distance_squared, triangle_max_edge_squared}
use Rattle.panel_distance.specs.Bisection.{first_longest, longest_edge, midpoint, halves, longest_edge_bisection}
use Rattle.coupling.specs.Coupling.{is_far, geometric_coupling}
use Rattle.lists.specs.Sums.{running_sum}
use Rattle.linkage.specs.Energy.{rows_added, energy_refusal}
use Rattle.linkage.specs.Flux.{lacks_sources, broken_rows, rows_differ, map_refusal}
use Rattle.display.specs.Display.{nanohenries, out_of_range, display_refusal, with_sign, shown}
use Rattle.worked_examples.specs.BenchSheet.{BenchSheet}

-- the starred facts, together
pub bench_sheet : BenchSheet
unfolding fma sqrt square_root min max clamp norm3 dot3 cross3 sub3 add_scaled3 area raw_normal closest_point exits_from_second exits_from_fourth exits_from_sixth first after some_below any_of count_below tabulate_from mesh_refusal mesh_checks lengths_differ passes_limits misses_node is_zero_area edge_sq quality is_poor poor_panels tested_count points_match matches_corner triangles_identical distance_squared point_triangle_distance_squared line_parameter offset_squared kept_offset_squared segment_distance_squared least_of_corners least_of_edges triangle_distance_squared lowest highest gap triangle_aabb_distance_squared triangle_max_edge_squared first_longest longest_edge midpoint halves longest_edge_bisection is_far geometric_coupling rows_added energy_refusal running_sum lacks_sources broken_rows rows_differ map_refusal nanohenries out_of_range display_refusal with_sign shown neg of_bits to_bits add sub mul div lt le is_nan
bench_sheet =
    record {
      fused = refl;
      root_of_minus_zero = refl;
      root_of_two = refl;
      thin-accepted = refl;
      thin-count = refl;
      thinner_refused = refl;
      thinner_count = refl;
      near_at_five = refl;
      near_rule = λ kind. refl;
      far-above-five = refl;
      far_rule = λ kind. refl;
      split_edge = refl;
      split_point = refl;
      map-accepted = refl;
      flux_17_39 = refl;
      energy_56 = refl;
      no_sources = refl;
      no_sources_map = refl;
      no_sources_output = λ held. refl;
      matrix-accepted = refl;
      energy_12_and_a_half = refl;
      display-accepted = refl;
      displayed = refl;
    }
