-- A distance that is not above the limit stays so with more candidates: the least of it and a candidate is one of the two, and a candidate that is below
-- what is not above the limit is not above it either. So the search may stop there.
use mathlib.Core.Path.{◌≡◌, refl, sym, ap, ◌∙◌}
use mathlib.Core.Bool.{Bool, true, false, cond, false≢true, true≢false}
use Prim.Native.Nat.{ℕ, ◌+◌, ◌*◌, ◌≤◌, ◌<◌}
use native.Mathlib.Nat.{le_of_lt, mul_right_comm, mul-le-mul_right, mul-lt-mul_of_pos_right, lt_of_mul-lt-mul_right, mul-pos}
use native.Mathlib.Omega.{arith}
use lib.IntN.{ℤ}
use borrow.Author.Tests.{ltb-true, lt-ltb}
use lib.Ieee.{Float, nan, inf, fin, up, down, lt, is_nan}
use lib.Ieee.Fits.{down_pos}
use lib.Ieee.Positive.{first_pos}
use Rattle.ieee754.specs.Ieee754.{min}
use Rattle.math.specs.Math.{Vec}
use Rattle.tri.specs.Mapping.{Tri, corner}
use Rattle.panel_distance.specs.Distance.{least_of_corners, least_of_edges, triangle_distance_squared}
use Rattle.pair_far_test.specs.Which.{until, corners_until, edges_until, edges_beyond, beyond}

-- ---- the order
-- x / p < y / q < z / r
fractions : (x y z p q r : ℕ) → 0 < p → x * q < y * p → y * r < z * q → x * r < z * p
fractions x y z p q r P h k =
    let a : x * q * r ≤ y * p * r = mul-le-mul_right r (le_of_lt h) in
    let b : y * r * p < z * q * p = mul-lt-mul_of_pos_right k P in
    let c : x * q * r ≡ x * r * q = mul_right_comm x q r in
    let d : y * p * r ≡ y * r * p = mul_right_comm y p r in
    let e : z * q * p ≡ z * p * q = mul_right_comm z q p in
    let f : x * r * q < z * p * q = omega (arith, a, b, c, d, e) in
    lt_of_mul-lt-mul_right q f

above_zero : (a b : ℕ) → a < b → 0 < b
above_zero a b h = omega arith

some-sum : (a b : ℕ) → 0 < b → 0 < a + b
some-sum a b h = omega arith

some_sum' : (a b : ℕ) → 0 < a → 0 < a + b
some_sum' a b h = omega arith

-- of three finite numbers, by their signs
finite_through : (s : Bool) (m : ℕ) (e : ℤ) (t : Bool) (n : ℕ) (d : ℤ) (u : Bool) (o : ℕ) (c : ℤ)
    → lt (fin s m e) (fin t n d) ≡ true → lt (fin t n d) (fin u o c) ≡ true → lt (fin s m e) (fin u o c) ≡ true
unfolding lt
finite_through false m e true n d u o c h k = absurd (false≢true h)
finite_through false m e false n d true o c h k = absurd (false≢true k)
finite_through false m e false n d false o c h k =
    lt-ltb (m * up e * down c) (o * up c * down e)
    (fractions (m * up e) (n * up d) (o * up c) (down e) (down d) (down c) (down_pos e) (ltb-true (m * up e * down d) (n * up d * down e) h) (ltb-true (n * up d * down c) (o * up c * down d) k))
finite_through true m e true n d true o c h k =
    lt-ltb (o * up c * down e) (m * up e * down c)
    (fractions (o * up c) (n * up d) (m * up e) (down c) (down d) (down e) (down_pos c) (ltb-true (o * up c * down d) (n * up d * down c) k) (ltb-true (n * up d * down e) (m * up e * down d) h))
finite_through true m e true n d false o c h k =
    lt-ltb 0 (m * up e * down c + o * up c * down e)
    (some_sum' (m * up e * down c) (o * up c * down e)
    (mul-pos (first_pos (m * up e) (down d) (above_zero (n * up d * down e) (m * up e * down d) (ltb-true (n * up d * down e) (m * up e * down d) h))) (down_pos c)))
finite_through true m e false n d true o c h k = absurd (false≢true k)
finite_through true m e false n d false o c h k =
    lt-ltb 0 (m * up e * down c + o * up c * down e)
    (some-sum (m * up e * down c) (o * up c * down e)
    (mul-pos (first_pos (o * up c) (down d) (above_zero (n * up d * down c) (o * up c * down d) (ltb-true (n * up d * down c) (o * up c * down d) k))) (down_pos e)))

lt_through : (x y z : Float) → lt x y ≡ true → lt y z ≡ true → lt x z ≡ true
unfolding lt
lt_through nan y z h k = absurd (false≢true h)
lt_through (inf s) nan z h k = absurd (false≢true h)
lt_through (inf true) (inf true) z h k = absurd (false≢true h)
lt_through (inf true) (inf false) nan h k = absurd (false≢true k)
lt_through (inf true) (inf false) (inf u) h k = absurd (false≢true k)
lt_through (inf true) (inf false) (fin u o c) h k = refl
lt_through (inf true) (fin t n d) nan h k = absurd (false≢true k)
lt_through (inf true) (fin t n d) (inf true) h k = absurd (false≢true k)
lt_through (inf true) (fin t n d) (inf false) h k = refl
lt_through (inf true) (fin t n d) (fin u o c) h k = refl
lt_through (inf false) (inf t) z h k = absurd (false≢true h)
lt_through (inf false) (fin t n d) z h k = absurd (false≢true h)
lt_through (fin s m e) nan z h k = absurd (false≢true h)
lt_through (fin s m e) (inf true) z h k = absurd (false≢true h)
lt_through (fin s m e) (inf false) nan h k = absurd (false≢true k)
lt_through (fin s m e) (inf false) (inf u) h k = absurd (false≢true k)
lt_through (fin s m e) (inf false) (fin u o c) h k = absurd (false≢true k)
lt_through (fin s m e) (fin t n d) nan h k = absurd (false≢true k)
lt_through (fin s m e) (fin t n d) (inf true) h k = absurd (false≢true k)
lt_through (fin s m e) (fin t n d) (inf false) h k = refl
lt_through (fin s m e) (fin t n d) (fin u o c) h k = finite_through s m e t n d u o c h k

-- ---- the least
below_nan : (x y : Float) → lt x y ≡ true → is_nan x ≡ false
unfolding lt is_nan
below_nan nan y h = absurd (false≢true h)
below_nan (inf s) y h = refl
below_nan (fin s m e) y h = refl

plain_min : (d c : Float) → is_nan d ≡ false → is_nan (min d c) ≡ false
unfolding min
plain_min d c h = rw h (go (lt c d) refl)
  where
    go : (b : Bool) → lt c d ≡ b → is_nan (cond b c d) ≡ false
    go true e = below_nan c d e
    go false e = h

-- a number that is not above the limit
pub record Near (limit d : Float) : Type 0 where
  pub plain : is_nan d ≡ false
  pub within : lt limit d ≡ false

decide : (b : Bool) → (b ≡ true → ⊥) → b ≡ false
decide true h = absurd (h refl)
decide false h = refl

near-min : (limit d c : Float) → Near limit d → Near limit (min d c)
near-min limit d c n = record { plain = plain_min d c n.plain; within = least }
  where
    go : (b : Bool) → lt c d ≡ b → lt limit (cond b c d) ≡ false
    go true e = decide (lt limit c) (λ h. true≢false (sym (lt_through limit c d h e) ∙ n.within))
    go false e = n.within

    least : lt limit (min d c) ≡ false
    least = unfold min in rw n.plain (go (lt c d) refl)

-- ---- the search
until_all : (limit d a b c : Float) → lt limit (until limit d a b c) ≡ true → until limit d a b c ≡ min (min (min d a) b) c
unfolding until
until_all limit d a b c h = go (lt limit (min d a)) (lt limit (min (min d a) b)) refl refl h
  where
    go : (x y : Bool) → lt limit (min d a) ≡ x → lt limit (min (min d a) b) ≡ y → lt limit (cond x (cond y (min (min (min d a) b) c) (min (min d a) b)) (min d a)) ≡ true
        → cond x (cond y (min (min (min d a) b) c) (min (min d a) b)) (min d a) ≡ min (min (min d a) b) c
    go true true e f k = refl
    go true false e f k = absurd (false≢true (sym f ∙ k))
    go false y e f k = absurd (false≢true (sym e ∙ k))

until-near : (limit d a b c : Float) → is_nan d ≡ false → lt limit (until limit d a b c) ≡ false → Near limit (min (min (min d a) b) c)
unfolding until
until-near limit d a b c p h = go (lt limit (min d a)) (lt limit (min (min d a) b)) refl refl h
  where
    p0 : is_nan (min d a) ≡ false
    p0 = plain_min d a p

    p1 : is_nan (min (min d a) b) ≡ false
    p1 = plain_min (min d a) b p0

    go : (x y : Bool) → lt limit (min d a) ≡ x → lt limit (min (min d a) b) ≡ y → lt limit (cond x (cond y (min (min (min d a) b) c) (min (min d a) b)) (min d a)) ≡ false
        → Near limit (min (min (min d a) b) c)
    go true true e f k = record { plain = plain_min (min (min d a) b) c p1; within = k }
    go true false e f k = near-min limit (min (min d a) b) c record { plain = p1; within = f }
    go false y e f k = near-min limit (min (min d a) b) c (near-min limit (min d a) b record { plain = p0; within = e })

-- three candidates more
near-three : (limit d a b c : Float) → Near limit d → Near limit (min (min (min d a) b) c)
near-three limit d a b c n = near-min limit (min (min d a) b) c (near-min limit (min d a) b (near-min limit d a n))

plain_three : (d a b c : Float) → is_nan d ≡ false → is_nan (min (min (min d a) b) c) ≡ false
plain_three d a b c p = plain_min (min (min d a) b) c (plain_min (min d a) b (plain_min d a p))

-- ---- the panels' distance
-- one stage: what is found is all there is and the rest decides, or it is near and so is all there is
staged : (limit x all : Float) (found rest : Bool) → (lt limit x ≡ true → x ≡ all) → (lt limit x ≡ false → Near limit all) → (x ≡ all → found ≡ rest) → (Near limit all → rest ≡ false)
    → cond (lt limit x) found false ≡ rest
staged limit x all found rest whole near same none = go (lt limit x) refl
  where
    go : (b : Bool) → lt limit x ≡ b → cond b found false ≡ rest
    go true e = same (whole e)
    go false e = sym (none (near e))

stage : (limit x all : Float) (k : Float → Bool) (rest : Bool) → (lt limit x ≡ true → x ≡ all) → (lt limit x ≡ false → Near limit all) → k all ≡ rest → (Near limit all → rest ≡ false)
    → cond (lt limit x) (k x) false ≡ rest
stage limit x all k rest whole near same none = staged limit x all (k x) rest whole near (λ e. ap k e ∙ same) none

module _ (limit : Float) where
  near-corners : (d : Float) (s t : Tri) → Near limit d → Near limit (least_of_corners d s t)
  unfolding least_of_corners
  near-corners d s t n = near-three limit d _ _ _ n

  corners_all : (d : Float) (s t : Tri) → lt limit (corners_until limit d s t) ≡ true → corners_until limit d s t ≡ least_of_corners d s t
  unfolding least_of_corners corners_until
  corners_all d s t h = until_all limit d _ _ _ h

  corners-near : (d : Float) (s t : Tri) → is_nan d ≡ false → lt limit (corners_until limit d s t) ≡ false → Near limit (least_of_corners d s t)
  unfolding least_of_corners corners_until
  corners-near d s t n h = until-near limit d _ _ _ n h

  plain_corners : (d : Float) (s t : Tri) → is_nan d ≡ false → is_nan (least_of_corners d s t) ≡ false
  unfolding least_of_corners
  plain_corners d s t n = plain_three d _ _ _ n

  near_edges : (d : Float) (p q : Vec) (t : Tri) → Near limit d → Near limit (least_of_edges d p q t)
  unfolding least_of_edges
  near_edges d p q t n = near-three limit d _ _ _ n

  edges_all : (d : Float) (p q : Vec) (t : Tri) → lt limit (edges_until limit d p q t) ≡ true → edges_until limit d p q t ≡ least_of_edges d p q t
  unfolding least_of_edges edges_until
  edges_all d p q t h = until_all limit d _ _ _ h

  edges_near : (d : Float) (p q : Vec) (t : Tri) → is_nan d ≡ false → lt limit (edges_until limit d p q t) ≡ false → Near limit (least_of_edges d p q t)
  unfolding least_of_edges edges_until
  edges_near d p q t n h = until-near limit d _ _ _ n h

  plain_edges : (d : Float) (p q : Vec) (t : Tri) → is_nan d ≡ false → is_nan (least_of_edges d p q t) ≡ false
  unfolding least_of_edges
  plain_edges d p q t n = plain_three d _ _ _ n

  last_edges : (d : Float) (p q : Vec) (t : Tri) → is_nan d ≡ false → lt limit (edges_until limit d p q t) ≡ lt limit (least_of_edges d p q t)
  last_edges d p q t n = go (lt limit (edges_until limit d p q t)) refl
    where
      go : (b : Bool) → lt limit (edges_until limit d p q t) ≡ b → lt limit (edges_until limit d p q t) ≡ lt limit (least_of_edges d p q t)
      go true e = ap (lt limit) (edges_all d p q t e)
      go false e = e ∙ sym (edges_near d p q t n e).within

  -- of all pairs of edges, and of all candidates
  module _ (s t : Tri) where
    abbrev first : Float → Float
    first d = least_of_edges d (corner s 0) (corner s 1) t

    abbrev second : Float → Float
    second d = least_of_edges (first d) (corner s 1) (corner s 2) t

    abbrev third : Float → Float
    third d = least_of_edges (second d) (corner s 2) (corner s 0) t

    edges_beyond_is : (d : Float) → is_nan d ≡ false → edges_beyond limit d s t ≡ lt limit (third d)
    unfolding edges_beyond
    edges_beyond_is d n =
        let n0 = plain_edges d (corner s 0) (corner s 1) t n in
        let n1 = plain_edges (first d) (corner s 1) (corner s 2) t n0 in
        staged limit (edges_until limit d (corner s 0) (corner s 1) t) (first d) _
        (lt limit (third d)) (edges_all d (corner s 0) (corner s 1) t) (edges_near d (corner s 0) (corner s 1) t n)
        (λ e. rw e (staged limit (edges_until limit (first d) (corner s 1) (corner s 2) t) (second d) _
        (lt limit (third d)) (edges_all (first d) (corner s 1) (corner s 2) t) (edges_near (first d) (corner s 1) (corner s 2) t n0)
        (λ e. rw e (last_edges (second d) (corner s 2) (corner s 0) t n1))
        (λ a. (near_edges (second d) (corner s 2) (corner s 0) t a).within)))
        (λ a. (near_edges (second d) (corner s 2) (corner s 0) t (near_edges (first d) (corner s 1) (corner s 2) t a)).within)

    near-third : (d : Float) → Near limit d → lt limit (third d) ≡ false
    near-third d a = (near_edges (second d) (corner s 2) (corner s 0) t (near_edges (first d) (corner s 1) (corner s 2) t (near_edges d (corner s 0) (corner s 1) t a))).within

    pub beyond_is : beyond limit s t ≡ lt limit (triangle_distance_squared s t)
    unfolding beyond triangle_distance_squared
    beyond_is =
        let ofS = least_of_corners (inf false) s t in
        let n : is_nan ofS ≡ false = plain_corners (inf false) s t (unfold is_nan in refl) in
        stage limit (corners_until limit (inf false) s t) ofS (λ x. cond (lt limit (corners_until limit x t s)) (edges_beyond limit (corners_until limit x t s) s t) false)
        (lt limit (third (least_of_corners ofS t s))) (corners_all (inf false) s t) (corners-near (inf false) s t (unfold is_nan in refl))
        (stage limit (corners_until limit ofS t s) (least_of_corners ofS t s) (λ x. edges_beyond limit x s t)
        (lt limit (third (least_of_corners ofS t s))) (corners_all ofS t s) (corners-near ofS t s n)
        (edges_beyond_is (least_of_corners ofS t s) (plain_corners ofS t s n))
        (near-third (least_of_corners ofS t s)))
        (λ a. near-third (least_of_corners ofS t s) (near-corners ofS t s a))
