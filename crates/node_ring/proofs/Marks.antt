-- Marks in a list of bools: one more, the three of a panel, and the loop over the panels that marks the ring.
use mathlib.Core.Path.{◌≡◌, refl, sym, ap, ◌∙◌, subst}
use mathlib.Core.Bool.{Bool, true, false, ◌||◌, ◌&&◌, or-true, or-false, or_assoc}
use mathlib.Core.List.{List}
use Prim.Native.Nat.{ℕ, zero, suc, ◌+◌, ◌<◌}
use lib.Dec.{eqb}
use lib.ListN.{length, get_or, set, replicate}
use lib.Seq.{get_or-set_same, get_or-set_other, lt-length-set}
use borrow.Author.Tests.{eqb-true, eqb-false}
use Rattle.lists.specs.Counting.{any_of, triple, some_below}
use Rattle.lists.proofs.Counting.{some_more}
use Rattle.mesh.specs.Mesh.{Mesh, triangle_indices}
use Rattle.scatter.specs.Renewal.{marked, AllBelow}
use Rattle.scatter.specs.Entries.{same}
use Rattle.node_ring.specs.Ring.{joins}

pub one-mark : (m : List Bool) (i a : ℕ) → i < length m → marked (set m i true) a ≡ (marked m a || eqb i a)
one-mark m i a h = go (eqb i a) refl
  where
    go : (t : Bool) → eqb i a ≡ t → marked (set m i true) a ≡ (marked m a || t)
    go true e =
        ap (λ (k : ℕ). marked (set m i true) k) (sym (eqb-true i a e)) ∙ get_or-set_same m i true false h ∙ sym (or-true (marked m a))
    go false e = get_or-set_other m i a true false (λ w. eqb-false i a e (sym w)) ∙ sym (or-false (marked m a))

pub three-marks : (m : List Bool) (s : List ℕ)
    → AllBelow (length m) (triple s)
    → (a : ℕ)
    → marked (set (set (set m (get_or s 0 0) true) (get_or s 1 0) true) (get_or s 2 0) true) a ≡ (marked m a || any_of (same a) (triple s))
unfolding any_of
three-marks m s b a =
    let x = get_or s 0 0 in
    let y = get_or s 1 0 in
    let z = get_or s 2 0 in
    let m₁ = set m x true in
    let h₁ : y < length m₁ = lt-length-set m x true b.1.0 in
    let h₂ : z < length (set m₁ y true) = lt-length-set m₁ y true (lt-length-set m x true b.1.1.0) in
    one-mark (set m₁ y true) z a h₂
    ∙ ap (λ (t : Bool). t || eqb z a) (one-mark m₁ y a h₁)
    ∙ ap (λ (t : Bool). t || eqb y a || eqb z a) (one-mark m x a b.0)
    ∙ shape (marked m a) (eqb x a) (eqb y a) (eqb z a)
  where
    shape : (p t u v : Bool) → (p || t || u || v) ≡ (p || (t || (u || (v || false))))
    shape p t u v = rw (or-false v, or_assoc p t u, or_assoc p (t || u) v, or_assoc t u v)

-- one panel more, read into the array s: the marks of the panels below p and of p
pub ring_turn : (m : Mesh) (changed : ℕ → Bool) (a p : ℕ) (s : List ℕ) (t u old : Bool)
    → s ≡ triangle_indices m p
    → t ≡ (old || some_below (joins m changed a) p)
    → u ≡ (t || (any_of changed (triple s) && any_of (same a) (triple s)))
    → u ≡ (old || some_below (joins m changed a) (p + 1))
ring_turn m changed a p s t u old e h w =
    let g = subst (λ (l : List ℕ). u ≡ (t || (any_of changed (triple l) && any_of (same a) (triple l)))) e w in
    g
    ∙ ap (λ (b : Bool). b || joins m changed a p) h
    ∙ or_assoc old (some_below (joins m changed a) p) (joins m changed a p)
    ∙ ap (λ (b : Bool). old || b) (sym (some_more (joins m changed a) p))

pub ring_start : (m : Mesh) (changed : ℕ → Bool) (a : ℕ) (old : Bool) → old ≡ (old || some_below (joins m changed a) 0)
unfolding some_below
ring_start m changed a old = sym (or-false old)

pub none-marked : (k a : ℕ) → marked (replicate k false) a ≡ false
none-marked zero a = refl
none-marked (suc k) zero = refl
none-marked (suc k) (suc a) = none-marked k a
