-- A change of places leaves the contributions of a cell alone if both its nodes are apart from the changed ones: a pair with a changed node adds nothing there, and another pair adds the same
-- numbers from both meshes. Stated for any sum of the contributions in order, so that another sum can take the rounded one's place.
use mathlib.Core.Path.{◌≡◌, refl, sym, ap, ap₂, ◌∙◌}
use mathlib.Core.Bool.{Bool, true, false}
use mathlib.Core.List.{List, [], ◌∷◌, ◌++◌, map}
use Prim.Native.Nat.{ℕ, zero, suc, ◌+◌, ◌-◌, ◌<◌, ◌≤◌}
use native.Mathlib.Omega.{arith}
use lib.Dec.{eqb}
use lib.ListN.{length}
use lib.Ieee.{Float}
use Rattle.lists.specs.Counting.{any_of}
use Rattle.mesh.specs.Mesh.{Mesh, node, ntri, triangle_indices, triangle_nodes}
use Rattle.refusal.proofs.Tests.{or_off}
use Rattle.scatter.specs.Entries.{same, block_entries, contributions, square}
use Rattle.scatter.specs.Renewal.{renewed}
use Rattle.scatter.proofs.Misses.{contributions-append, source_misses, target_misses, both_miss}
use Rattle.scatter.specs.Mirror.{mirrored}
use Rattle.scatter.proofs.Renewals.{renewed-from}
use Rattle.scatter.proofs.Mirror.{mirrored_alike}
use Rattle.pair_loops.specs.Additions.{Block, pair_entries, target_entries, source_entries, entries}
use Rattle.scatter.specs.Change.{Changed, Apart}

-- a pair adds nothing to (a, b) if one of its panels holds neither a nor b
pair_misses_source : (f : Block) (m : Mesh) (i j a b : ℕ)
    → any_of (same a) (triangle_indices m i) ≡ false → any_of (same b) (triangle_indices m i) ≡ false → contributions (pair_entries f m i j) a b ≡ []
unfolding pair_entries
pair_misses_source f m i j a b ha hb =
    let s = triangle_indices m i in
    let t = triangle_indices m j in
    let v = f (triangle_nodes m i) (triangle_nodes m j) in
    both_miss (eqb i j) (block_entries s t v 0) a b (source_misses s t v 0 a b ha) (source_misses s t v 0 b a hb)

pair_misses_target : (f : Block) (m : Mesh) (i j a b : ℕ)
    → any_of (same a) (triangle_indices m j) ≡ false → any_of (same b) (triangle_indices m j) ≡ false → contributions (pair_entries f m i j) a b ≡ []
unfolding pair_entries
pair_misses_target f m i j a b ha hb =
    let s = triangle_indices m i in
    let t = triangle_indices m j in
    let v = f (triangle_nodes m i) (triangle_nodes m j) in
    both_miss (eqb i j) (block_entries s t v 0) a b (target_misses s t v 0 a b hb) (target_misses s t v 0 b a ha)

module _ (f : Block) (changed : ℕ → Bool) (m m' : Mesh) (d : Changed changed m m') where
  indices_same : (p : ℕ) → triangle_indices m' p ≡ triangle_indices m p
  indices_same p = rw (d.t0_same, d.t1_same, d.t2_same)

  places_same : (s : List ℕ) → any_of changed s ≡ false → map (node m') s ≡ map (node m) s
  unfolding any_of
  places_same [] h = refl
  places_same (x ∷ s) h =
      let w = or_off _ _ h in
      ap₂ (λ (q : List Float) (r : List (List Float)). q ∷ r) (d.kept x w.0) (places_same s w.1)

  corners-same : (p : ℕ) → any_of changed (triangle_indices m p) ≡ false → triangle_nodes m' p ≡ triangle_nodes m p
  corners-same p h = ap (λ (s : List ℕ). map (node m') s) (indices_same p) ∙ places_same (triangle_indices m p) h

  module _ (a b : ℕ) (ha : Apart m changed a) (hb : Apart m changed b) where
    pair_same : (i j : ℕ) → i < ntri m → j < ntri m → contributions (pair_entries f m' i j) a b ≡ contributions (pair_entries f m i j) a b
    unfolding pair_entries
    pair_same i j li lj = go (any_of changed (triangle_indices m i)) (any_of changed (triangle_indices m j)) refl refl
      where
        away : (x p : ℕ) → any_of (same x) (triangle_indices m p) ≡ false → any_of (same x) (triangle_indices m' p) ≡ false
        away x p h = ap (λ (s : List ℕ). any_of (same x) s) (indices_same p) ∙ h

        go : (t u : Bool)
            → any_of changed (triangle_indices m i) ≡ t
            → any_of changed (triangle_indices m j) ≡ u
            → contributions (pair_entries f m' i j) a b ≡ contributions (pair_entries f m i j) a b
        go true u p q =
            let x = ha i li p in
            let y = hb i li p in
            pair_misses_source f m' i j a b (away a i x) (away b i y) ∙ sym (pair_misses_source f m i j a b x y)
        go false true p q =
            let x = ha j lj q in
            let y = hb j lj q in
            pair_misses_target f m' i j a b (away a j x) (away b j y) ∙ sym (pair_misses_target f m i j a b x y)
        go false false p q = rw (corners-same i p, corners-same j q, d.t0_same, d.t1_same, d.t2_same)

    targets_same : (c i j : ℕ) → i < ntri m → j + c ≤ ntri m → contributions (target_entries f m' i j c) a b ≡ contributions (target_entries f m i j c) a b
    unfolding target_entries
    targets_same zero i j li lj = refl
    targets_same (suc c) i j li lj =
        contributions-append (pair_entries f m' i j) (target_entries f m' i (suc j) c) a b
        ∙ ap₂ (λ (l r : List Float). l ++ r) (pair_same i j li (omega arith)) (targets_same c i (suc j) li (omega arith))
        ∙ sym (contributions-append (pair_entries f m i j) (target_entries f m i (suc j) c) a b)

    count_same : ntri m' ≡ ntri m
    count_same = ap {A = List ℕ} length d.t0_same

    sources_same : (c i : ℕ) → i + c ≤ ntri m → contributions (source_entries f m' i c) a b ≡ contributions (source_entries f m i c) a b
    unfolding source_entries
    sources_same zero i l = refl
    sources_same (suc c) i l =
        contributions-append (target_entries f m' i i (ntri m' - i)) (source_entries f m' (suc i) c) a b
        ∙ ap₂ (λ (l r : List Float). l ++ r)
        (ap (λ (k : ℕ). contributions (target_entries f m' i i (k - i)) a b) count_same ∙ targets_same (ntri m - i) i i (omega arith) (omega arith))
        (sources_same c (suc i) (omega arith))
        ∙ sym (contributions-append (target_entries f m i i (ntri m - i)) (source_entries f m (suc i) c) a b)

    contributions-kept : contributions (entries f m') a b ≡ contributions (entries f m) a b
    contributions-kept = ap (λ (k : ℕ). contributions (source_entries f m' 0 k) a b) count_same ∙ sources_same (ntri m) 0 (omega arith)

  -- mirrored cells that are a function of their contributions: the old mesh's, renewed where a row or a column is in r, are the new mesh's, if every node outside r is apart
  pub renewed_by : (sum : List Float → Float) (r : ℕ → Bool) → ((a : ℕ) → r a ≡ false → Apart m changed a) → (n : ℕ)
      → renewed r (mirrored (λ a b. sum (contributions (entries f m') a b))) n (square n (mirrored (λ a b. sum (contributions (entries f m) a b))))
      ≡ square n (mirrored (λ a b. sum (contributions (entries f m') a b)))
  renewed_by sum r out n =
      let g : ℕ → ℕ → Float = λ a b. sum (contributions (entries f m) a b) in
      let g' : ℕ → ℕ → Float = λ a b. sum (contributions (entries f m') a b) in
      renewed-from r (mirrored g) (mirrored g') n
      (λ a b h.
      let w = or_off (r a) (r b) h in
      let p = out a w.0 in
      let q = out b w.1 in
      mirrored_alike g g' a b (ap sum (contributions-kept a b p q)) (ap sum (contributions-kept b a q p)))
