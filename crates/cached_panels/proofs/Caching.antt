-- A panel's numbers set at its place leave those of the panels before it, so the array holds one panel more. A panel read from the array is the panel's own numbers, so that what is made of a pair of them is what is made of their corners.
use mathlib.Core.Path.{◌≡◌, sym, ap, ◌∙◌, subst}
use mathlib.Core.Logic.{◌⊎◌, inl, inr}
use mathlib.Core.List.{List}
use Prim.Native.Nat.{ℕ, ◌+◌, ◌<◌}
use native.Mathlib.Nat.{eq-or-lt_of_le}
use native.Mathlib.Omega.{arith}
use lib.ListN.{length, get_or, set}
use lib.Seq.{get_or-set_same, get_or-set_other}
use Rattle.cached_panels.specs.declared.CachedNumbers.{CachedNumbers}
use Rattle.cached_panels.specs.Cache.{Cached, absent, besides_corners}
use lib.Ieee.{Float}
use Rattle.mesh.specs.Mesh.{Mesh, triangle_nodes}
use Rattle.pair.specs.declared.Panel.{Panel}
use Rattle.tri.specs.declared.quadrature.QuadratureKind.{QuadratureKind}
use Rattle.coupling.specs.Block.{mutual_inductance_block}
use Rattle.pair.specs.declared.Source.{Source}
use Rattle.pair.specs.Pair.{panel_numbers, source_numbers, Known, KnownSource}
use Rattle.pair.proofs.Numbers.{panel_known, source_known}

-- ---- one panel more
pub cache_more : (m : Mesh) (cache new : List CachedNumbers) (v : CachedNumbers) (j : ℕ)
    → j < length cache → v ≡ besides_corners (panel_numbers (triangle_nodes m j)) → new ≡ set cache j v → Cached j m cache → Cached (j + 1) m new
cache_more m cache new v j l e w k = λ i b. ap (λ (r : List CachedNumbers). get_or r i absent) w ∙ go i (eq-or-lt_of_le (omega (arith, b)))
  where
    go : (i : ℕ) → (i ≡ j) ⊎ (i < j) → get_or (set cache j v) i absent ≡ besides_corners (panel_numbers (triangle_nodes m i))
    go i (inl z) = rw z (get_or-set_same cache j v absent l ∙ e)
    go i (inr z) = get_or-set_other cache j i v absent (λ q. absurd (omega (arith, z, q))) ∙ k i z

-- ---- a pair of panels read back
module _ (kind : QuadratureKind) (m : Mesh) (i : ℕ) (s : Source) (e : s ≡ source_numbers kind (panel_numbers (triangle_nodes m i))) where
  pub kept_source : KnownSource kind s
  kept_source = subst (λ (x : Source). KnownSource kind x) (sym e) (source_known kind (triangle_nodes m i))

  pub kept_block : (j : ℕ) (t : Panel) (b : List Float)
      → t ≡ panel_numbers (triangle_nodes m j)
      → b ≡ mutual_inductance_block kind s.panel.corners t.corners
      → b ≡ mutual_inductance_block kind (triangle_nodes m i) (triangle_nodes m j)
  unfolding source_numbers panel_numbers
  kept_block j t b f h = h ∙ rw (e, f)

pub kept_target : (m : Mesh) (j : ℕ) (t : Panel) → t ≡ panel_numbers (triangle_nodes m j) → Known t
kept_target m j t e = subst (λ (x : Panel). Known x) (sym e) (panel_known (triangle_nodes m j))
