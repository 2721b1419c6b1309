-- One lane of `atan2s` against the definition: NaN, or of two sizes that are neither zero nor infinite, where the definition's special cases do not hold and the comparison with zero is the sign bit.
use mathlib.Core.Path.{◌≡◌, refl, sym, ap, ◌∙◌, subst}
use mathlib.Core.Bool.{Bool, true, false, cond, ◌&&◌}
use lib.Dec.{T}
use lib.Ieee.{Float, nan, neg, of_bits, lt, le, is_nan}
use lib.Ieee.Positive.{positive}
use Rattle.binary64.specs.Binary64.{◌⊖◌, ◌⊕◌, ◌⊘◌, plus_zero, one, four, π}
use Rattle.ieee754.specs.Ieee754.{signed}
use Rattle.elementary.specs.Elementary.{ratio, atan_at, supplement, atan2}
use Rattle.elementary.specs.Elementary as Spec
use Rattle.elementary_lanes.specs.Lanes.{min_positive, two_to1023, magnitude, first_quadrant, angle}
use Rattle.elementary_lanes.proofs.Normal.{both, within, ordinary, Signed, has_sign, same}

pub one_quotient : (steep : Bool) (a b : Float) → cond steep b a ⊘ cond steep a b ≡ cond steep (b ⊘ a) (a ⊘ b)
one_quotient true a b = refl
one_quotient false a b = refl

pub one_angle : (high : Bool) (q : Float)
    → atan_at (cond high (π ⊘ four) plus_zero) (cond high ((q ⊖ one) ⊘ (q ⊕ one)) q) ≡ cond high (atan_at (π ⊘ four) ((q ⊖ one) ⊘ (q ⊕ one))) (atan_at plus_zero q)
one_angle true q = refl
one_angle false q = refl

quadrant_is : (a b : Float) → T (positive a) → first_quadrant a b ≡ Spec.first_quadrant a b
unfolding first_quadrant Spec.first_quadrant ratio
quadrant_is a b p = let o = ordinary a p in rw (o.not_zero, o.finite)

-- the two sizes of a lane that holds
sizes : (a b : Float) → le min_positive a && le a two_to1023 && le min_positive b && le b two_to1023 ≡ true → T (positive a) × T (positive b)
sizes a b t =
    let h3 = both (le min_positive a && le a two_to1023 && le min_positive b) (le b two_to1023) t in
    let h2 = both (le min_positive a && le a two_to1023) (le min_positive b) h3.0 in
    let h1 = both (le min_positive a) (le a two_to1023) h2.0 in
    (within a two_to1023 top h1.0 h1.1, within b two_to1023 top h2.1 h3.1)
  where
    top : T (positive two_to1023)
    top = unfold of_bits in tt

definition : (y x : Float) → Signed y → Signed x → T (positive (magnitude y)) → atan2 y x ≡ signed (lt y plus_zero) (supplement (lt x plus_zero) (first_quadrant (magnitude y) (magnitude x)))
unfolding atan2
definition y x s t p =
    rw (s.number, t.number)
    (λ i. signed (sym s.sign i) (supplement (sym t.sign i) (Spec.first_quadrant (sym s.size i) (sym t.size i))))
    ∙ ap (λ (r : Float). signed (lt y plus_zero) (supplement (lt x plus_zero) r)) (sym (quadrant_is (magnitude y) (magnitude x) p))

angle-or-atan2 : (y x : Float) → cond (is_nan (angle y x)) (atan2 y x) (angle y x) ≡ atan2 y x
unfolding angle is_nan signed
angle-or-atan2 y x = go (le min_positive a && le a two_to1023 && le min_positive b && le b two_to1023) (sizes a b)
  where
    a : Float
    a = magnitude y

    b : Float
    b = magnitude x

    r : Float
    r = supplement (lt x plus_zero) (first_quadrant a b)

    s : Float
    s = cond (lt y plus_zero) (neg r) r

    go : (t : Bool) → (t ≡ true → T (positive a) × T (positive b)) → cond (is_nan (cond t s nan)) (atan2 y x) (cond t s nan) ≡ atan2 y x
    go true h = let p = h refl in same (is_nan s) s (atan2 y x) (sym (definition y x (has_sign y p.0) (has_sign x p.1) p.0))
    go false h = refl

pub angle_is : (y x : Float) → is_nan (angle y x) ≡ false → angle y x ≡ atan2 y x
angle_is y x n = subst (λ (b : Bool). cond b (atan2 y x) (angle y x) ≡ atan2 y x) n (angle-or-atan2 y x)
