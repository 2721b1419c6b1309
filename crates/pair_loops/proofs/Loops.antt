-- The loops over sources and targets, a turn at a time. Each keeps this: what is left to add, added to the matrix as it stands, makes the same as all of it added at the start.
use mathlib.Core.Path.{◌≡◌, refl, sym, ap, ◌∙◌, subst}
use mathlib.Core.Bool.{Bool, false}
use mathlib.Core.List.{List, [], ◌++◌}
use Prim.Native.Nat.{ℕ, zero, suc, ◌+◌, ◌-◌, ◌<◌, ◌≤◌}
use native.Mathlib.Numerals.{add-one}
use native.Mathlib.Omega.{arith}
use lib.Dec.{eqb}
use lib.Ieee.{Float}
use Rattle.lists.specs.Counting.{any_of, triple, next_from}
use Rattle.mesh.specs.Mesh.{Mesh, ntri, triangle_indices, triangle_nodes}
use Rattle.refusal.proofs.Tests.{or_off}
use Rattle.scatter.specs.Entries.{Entry, block_entries, with_transposed}
use Rattle.scatter.specs.Renewal.{named, scatter, renewing, marked}
use Rattle.scatter.proofs.Steps.{renewing-append}
use Rattle.scatter.proofs.Misses.{block_skipped}
use Rattle.lists.proofs.First.{next_keeps}
use Rattle.pair_loops.specs.Additions.{Block, pair_entries, target_entries, source_entries}

module _ (r : ℕ → Bool) (n : ℕ) (f : Block) (m : Mesh) where
  -- ---- one pair
  pub pair_added : (i j : ℕ) (s t : List ℕ) (b out : List Float) {new : List Float}
      → s ≡ triangle_indices m i
      → t ≡ triangle_indices m j
      → b ≡ f (triangle_nodes m i) (triangle_nodes m j)
      → new ≡ renewing r n out (with_transposed (eqb i j) (block_entries (triple s) (triple t) b 0))
      → new ≡ renewing r n out (pair_entries f m i j)
  unfolding pair_entries
  pair_added i j s t b out p q e w = w ∙ rw (e, p, q)

  pair_skipped : (i j : ℕ) (out : List Float)
      → any_of r (triangle_indices m i) ≡ false → any_of r (triangle_indices m j) ≡ false → out ≡ renewing r n out (pair_entries f m i j)
  unfolding pair_entries
  pair_skipped i j out p q =
      sym (block_skipped r n (eqb i j) (triangle_indices m i) (triangle_indices m j) (f (triangle_nodes m i) (triangle_nodes m j)) out (rw (p, q)))

  -- ---- a turn: the first part of what is left has been added
  turn : (es fs gs : List Entry) {new goal : List Float} (out : List Float)
      → gs ≡ es ++ fs → new ≡ renewing r n out es → renewing r n out gs ≡ goal → renewing r n new fs ≡ goal
  turn es fs gs out s e h =
      ap (λ (l : List Float). renewing r n l fs) e
      ∙ sym (renewing-append r n out es fs)
      ∙ ap (λ (l : List Entry). renewing r n out l) (sym s)
      ∙ h

  done : (es : List Entry) {goal : List Float} (out : List Float) → es ≡ [] → renewing r n out es ≡ goal → out ≡ goal
  unfolding renewing scatter
  done es out s h = sym (ap (λ (l : List Entry). renewing r n out l) s) ∙ h

  left : (p j : ℕ) → j < p → p - j ≡ suc (p - (j + 1))
  left p j h = omega arith

  none_left : (p j : ℕ) → p ≤ j → p - j ≡ 0
  none_left p j h = omega arith

  -- ---- targets
  targets_step : (i j p : ℕ) → j < p → target_entries f m i j (p - j) ≡ pair_entries f m i j ++ target_entries f m i (j + 1) (p - (j + 1))
  unfolding target_entries
  targets_step i j p h = rw (left p j h, add-one j)

  targets_none : (i j p : ℕ) → p ≤ j → target_entries f m i j (p - j) ≡ []
  unfolding target_entries
  targets_none i j p h = rw (none_left p j h)

  pub target_turn : (i j p : ℕ) {new goal : List Float} (out : List Float)
      → j < p
      → new ≡ renewing r n out (pair_entries f m i j)
      → renewing r n out (target_entries f m i j (p - j)) ≡ goal
      → renewing r n new (target_entries f m i (j + 1) (p - (j + 1))) ≡ goal
  target_turn i j p out h = turn (pair_entries f m i j) _ _ out (targets_step i j p h)

  pub target_end : (i j p : ℕ) {goal : List Float} (out : List Float) → p ≤ j → renewing r n out (target_entries f m i j (p - j)) ≡ goal → out ≡ goal
  target_end i j p out h = done _ out (targets_none i j p h)

  -- on to the next pair with a flagged panel: those passed over add nothing
  pub target_next : (flags : List Bool) (i j p : ℕ) {goal : List Float} (next : ℕ) (out : List Float)
      → ((k : ℕ) → k < p → marked flags k ≡ any_of r (triangle_indices m k))
      → i ≤ j
      → next ≡ next_from (named (marked flags) i) j (p - j)
      → renewing r n out (target_entries f m i j (p - j)) ≡ goal
      → renewing r n out (target_entries f m i next (p - next)) ≡ goal
  target_next flags i j p {goal} next out t l e h =
      rw e (next_keeps (λ k. renewing r n out (target_entries f m i k (p - k)) ≡ goal) (named (marked flags) i) j (p - j) (λ k a b o q. step k a (omega (arith, a, b)) (or_off _ _ o) q) h)
    where
      step : (k : ℕ) → j ≤ k → k < p → (marked flags i ≡ false) × (marked flags k ≡ false)
          → renewing r n out (target_entries f m i k (p - k)) ≡ goal
          → renewing r n out (target_entries f m i (suc k) (p - suc k)) ≡ goal
      step k a b w q =
          subst (λ (x : ℕ). renewing r n out (target_entries f m i x (p - x)) ≡ goal) (add-one k)
          (target_turn i k p out b (pair_skipped i k out (sym (t i (omega arith)) ∙ w.0) (sym (t k b) ∙ w.1)) q)

  -- ---- sources
  sources_step : (i p : ℕ) → i < p → source_entries f m i (p - i) ≡ target_entries f m i i (ntri m - i) ++ source_entries f m (i + 1) (p - (i + 1))
  unfolding source_entries
  sources_step i p h = rw (left p i h, add-one i)

  sources_none : (i p : ℕ) → p ≤ i → source_entries f m i (p - i) ≡ []
  unfolding source_entries
  sources_none i p h = rw (none_left p i h)

  pub source_turn : (i p : ℕ) {new goal : List Float} (out : List Float)
      → i < p
      → new ≡ renewing r n out (target_entries f m i i (ntri m - i))
      → renewing r n out (source_entries f m i (p - i)) ≡ goal
      → renewing r n new (source_entries f m (i + 1) (p - (i + 1))) ≡ goal
  source_turn i p out h = turn (target_entries f m i i (ntri m - i)) _ _ out (sources_step i p h)

  pub source_end : (i p : ℕ) {goal : List Float} (out : List Float) → p ≤ i → renewing r n out (source_entries f m i (p - i)) ≡ goal → out ≡ goal
  source_end i p out h = done _ out (sources_none i p h)

  -- ---- nothing flagged: nothing added
  module _ (out : List Float) (clear : (k : ℕ) → k < ntri m → any_of r (triangle_indices m k) ≡ false) where
    nothing : (es : List Entry) → out ≡ renewing r n out es → (fs : List Entry) → out ≡ renewing r n out fs → out ≡ renewing r n out (es ++ fs)
    nothing es e fs f = f ∙ ap (λ (l : List Float). renewing r n l fs) e ∙ sym (renewing-append r n out es fs)

    no_targets : (c i j : ℕ) → i < ntri m → j + c ≤ ntri m → out ≡ renewing r n out (target_entries f m i j c)
    unfolding target_entries renewing scatter
    no_targets zero i j l b = refl
    no_targets (suc c) i j l b =
        nothing (pair_entries f m i j) (pair_skipped i j out (clear i l) (clear j (omega arith))) (target_entries f m i (suc j) c) (no_targets c i (suc j) l (omega arith))

    pub no_sources : (c i : ℕ) → i + c ≤ ntri m → out ≡ renewing r n out (source_entries f m i c)
    unfolding source_entries renewing scatter
    no_sources zero i b = refl
    no_sources (suc c) i b =
        nothing (target_entries f m i i (ntri m - i)) (no_targets (ntri m - i) i i (omega arith) (omega arith)) (source_entries f m (suc i) c) (no_sources c (suc i) (omega arith))
