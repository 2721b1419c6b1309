-- The near rule by its depth: a leaf, or two halves.
use mathlib.Core.Path.{◌≡◌, refl}
use Prim.Native.Nat.{ℕ, zero, suc, ◌-◌}
use mathlib.Core.List.{[]}
use native.Mathlib.Numerals.{sub-one}
use lib.ListN.{get_or}
use Rattle.binary64.specs.Binary64.{◌⊕◌}
use Rattle.tri.specs.Mapping.{Tri}
use Rattle.tri.specs.declared.quadrature.QuadratureKind.TheVariants.{Dunavant5}
use Rattle.potential.specs.declared.UniformTriangle.{UniformTriangle}
use Rattle.panel_distance.specs.Bisection.{longest_edge_bisection}
use Rattle.coupling.specs.Coupling.{triangle_geometric_coupling_exact_directed, triangle_geometric_coupling_exact_fixed}

pub fixed_leaf : (source : UniformTriangle) (target : Tri) (depth : ℕ) → depth ≡ 0 → triangle_geometric_coupling_exact_fixed source target depth ≡ triangle_geometric_coupling_exact_directed source target Dunavant5
unfolding triangle_geometric_coupling_exact_fixed
fixed_leaf source target depth e = rw e

pub fixed_halves : (source : UniformTriangle) (target : Tri) (depth : ℕ) → (depth ≡ 0 → ⊥)
    → triangle_geometric_coupling_exact_fixed source target depth ≡ triangle_geometric_coupling_exact_fixed source (get_or (longest_edge_bisection target) 0 []) (depth - 1) ⊕ triangle_geometric_coupling_exact_fixed source (get_or (longest_edge_bisection target) 1 []) (depth - 1)
unfolding triangle_geometric_coupling_exact_fixed
fixed_halves source target zero n = absurd (n refl)
fixed_halves source target (suc depth) n = rw (sub-one (suc depth))
