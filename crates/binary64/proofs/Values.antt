-- Finite values by their magnitudes: a value has one sign and one size, and a product, a sum, a difference and `fma` of values are `round` and `sum` of their magnitudes. Only the fractions
-- matter, not how they are written (`sum_same`).
use mathlib.Core.Path.{◌≡◌, refl, sym, ap, ◌∙◌, subst}
use mathlib.Core.Bool.{Bool, true, false, not, ◌&&◌, cond, beq}
use Prim.Native.Nat.{ℕ, ◌+◌, ◌-◌, ◌*◌, ◌^◌, ◌<◌}
use native.Mathlib.Nat.{mul_comm, mul_assoc, mul_left_comm, mul_right_comm, mul-sub, add-mul, mul-pos, mul-lt-mul_of_pos_right, lt_of_mul-lt-mul_right, eq_of_mul-eq-mul_right}
use lib.Dec.{T, ltb, ltb→lt, lt→ltb}
use lib.Pow.{pow-add, pow_pos}
use lib.Ieee.{Float, nan, inf, fin, Format, binary64, unlike, up, down, round, sum, add, sub, neg, mul}
use lib.Ieee.Fits.{down_pos}
use lib.Ieee.Exact.{HasValue}
use lib.Ieee.Scale.{round_same, finite}
use Rattle.binary64.specs.Operations.{fma, fma_fin}
use Rattle.binary64.specs.Format.{lowest}
use Rattle.binary64.specs.Nearest.{den}

-- ---- a value has one sign and one size

pub value_sign : (x : Float) (s t : Bool) (a b c : ℕ) → HasValue x s a c → HasValue x t b c → s ≡ t
value_sign nan s t a b c p q = absurd p
value_sign (inf u) s t a b c p q = absurd p
value_sign (fin u m e) s t a b c p q = sym p.0 ∙ q.0

pub value-one : (x : Float) (s t : Bool) (a b c : ℕ) → 0 < c → HasValue x s a c → HasValue x t b c → a ≡ b
value-one nan s t a b c C p q = absurd p
value-one (inf u) s t a b c C p q = absurd p
value-one (fin u m e) s t a b c C p q = eq_of_mul-eq-mul_right (down e) (down_pos e) a b (sym p.1 ∙ q.1)

pub value_finite : (x : Float) (s : Bool) (a c : ℕ) → HasValue x s a c → T (finite x)
value_finite nan s a c h = absurd h
value_finite (inf u) s a c h = absurd h
value_finite (fin u m e) s a c h = tt

-- ---- the product, rounded

pub product_round : (x y : Float) (s t : Bool) (n k l : ℕ) → 0 < l → HasValue x s n l → HasValue y t k l
    → mul binary64 x y ≡ round binary64 (unlike s t) (n * k) (l * l)
unfolding mul
product_round nan y s t n k l L h j = absurd h
product_round (inf u) y s t n k l L h j = absurd h
product_round (fin u m e) nan s t n k l L h j = absurd j
product_round (fin u m e) (inf v) s t n k l L h j = absurd j
product_round (fin u m e) (fin v i d) s t n k l L h j =
    ap (λ (b : Bool). round binary64 (unlike b v) (m * up e * (i * up d)) (down e * down d)) h.0
    ∙ ap (λ (b : Bool). round binary64 (unlike s b) (m * up e * (i * up d)) (down e * down d)) j.0
    ∙ round_same binary64 (unlike s t) (m * up e * (i * up d)) (down e * down d) (n * k) (l * l) (mul-pos (down_pos e) (down_pos d)) (mul-pos L L)
    (sort₁ (m * up e) (i * up d) l ∙ ap (λ (w : ℕ). w * (i * up d * l)) h.1 ∙ ap (λ (w : ℕ). n * down e * w) j.1 ∙ sort₂ n (down e) k (down d))
  where
    sort₁ : (a b l : ℕ) → a * b * (l * l) ≡ a * l * (b * l)
    sort₁ a b l = simp (mul_assoc, mul_left_comm)

    sort₂ : (n d k c : ℕ) → n * d * (k * c) ≡ n * k * (d * c)
    sort₂ n d k c = simp (mul_assoc, mul_left_comm)

-- ---- `sum` sees only the values of its two fractions

pub sub-mul : (x y z : ℕ) → (x - y) * z ≡ x * z - y * z
sub-mul x y z = mul_comm (x - y) z ∙ mul-sub z x y ∙ ap (λ (q : ℕ). q - z * y) (mul_comm z x) ∙ ap (λ (q : ℕ). x * z - q) (mul_comm z y)

ltb-same : (a b c d : ℕ) → (a < b → c < d) → (c < d → a < b) → ltb a b ≡ ltb c d
ltb-same a b c d p q = go (ltb a b) (ltb c d) (λ t. lt→ltb c d (p (ltb→lt a b t))) (λ t. lt→ltb a b (q (ltb→lt c d t)))
  where
    go : (x y : Bool) → (T x → T y) → (T y → T x) → x ≡ y
    go true true p q = refl
    go true false p q = absurd (p tt)
    go false true p q = absurd (q tt)
    go false false p q = refl

cross_lt : (a b c a' b' c' : ℕ) → 0 < c → 0 < c' → a * c' ≡ a' * c → b * c' ≡ b' * c → a < b → a' < b'
cross_lt a b c a' b' c' C C' x y l = lt_of_mul-lt-mul_right c (subst (λ (z : ℕ). z < b' * c) x (subst (λ (z : ℕ). a * c' < z) y (mul-lt-mul_of_pos_right l C')))

pub sum_same : (f : Format) (s t : Bool) (a b c a' b' c' : ℕ) → 0 < c → 0 < c' → a * c' ≡ a' * c → b * c' ≡ b' * c → sum f s a t b c ≡ sum f s a' t b' c'
unfolding sum
sum_same f s t a b c a' b' c' C C' x y = go (beq s t)
  where
    diff : (p q p' q' : ℕ) → p * c' ≡ p' * c → q * c' ≡ q' * c → (p - q) * c' ≡ (p' - q') * c
    diff p q p' q' h k = sub-mul p q c' ∙ ap (λ (z : ℕ). z - q * c') h ∙ ap (λ (z : ℕ). p' * c - z) k ∙ sym (sub-mul p' q' c)

    lt₁ : ltb a b ≡ ltb a' b'
    lt₁ = ltb-same a b a' b' (cross_lt a b c a' b' c' C C' x y) (cross_lt a' b' c' a b c C' C (sym x) (sym y))

    lt₂ : ltb b a ≡ ltb b' a'
    lt₂ = ltb-same b a b' a' (cross_lt b a c b' a' c' C C' y x) (cross_lt b' a' c' b a c C' C (sym y) (sym x))

    go : (e : Bool) → cond e (round f s (a + b) c) (cond (ltb a b) (round f t (b - a) c) (round f (s && ltb b a) (a - b) c)) ≡ cond e
        (round f s (a' + b') c') (cond (ltb a' b') (round f t (b' - a') c') (round f (s && ltb b' a') (a' - b') c'))
    go true = round_same f s (a + b) c (a' + b') c' C C' (add-mul a b c' ∙ ap (λ (z : ℕ). z + b * c') x ∙ ap (λ (z : ℕ). a' * c + z) y ∙ sym (add-mul a' b' c))
    go false =
        ap (λ (z : Bool). cond z (round f t (b - a) c) (round f (s && ltb b a) (a - b) c)) lt₁
        ∙ ap (λ (z : Bool). cond (ltb a' b') (round f t (b - a) c) (round f (s && z) (a - b) c)) lt₂
        ∙ ap (λ (z : Float). cond (ltb a' b') z (round f (s && ltb b' a') (a - b) c)) (round_same f t (b - a) c (b' - a') c' C C' (diff b a b' a' y x))
        ∙ ap (λ (z : Float). cond (ltb a' b') (round f t (b' - a') c') z) (round_same f (s && ltb b' a') (a - b) c (a' - b') c' C C' (diff a b a' b' x y))

-- ---- a sum and a difference of two finite values, by their magnitudes

pub add-values : (x y : Float) (s t : Bool) (a b l : ℕ) → 0 < l → HasValue x s a l → HasValue y t b l → add binary64 x y ≡ sum binary64 s a t b l
unfolding add
add-values (fin u m e) (fin v n d) s t a b l L h k =
    ap (λ (w : Bool). sum binary64 w (m * up e * down d) v (n * up d * down e) (down e * down d)) h.0
    ∙ ap (λ (w : Bool). sum binary64 s (m * up e * down d) w (n * up d * down e) (down e * down d)) k.0
    ∙ sum_same binary64 s t (m * up e * down d) (n * up d * down e) (down e * down d) a b l (mul-pos (down_pos e) (down_pos d)) L
    (mul_right_comm (m * up e) (down d) l ∙ ap (λ (w : ℕ). w * down d) h.1 ∙ mul_assoc a (down e) (down d))
    (mul_right_comm (n * up d) (down e) l
    ∙ ap (λ (w : ℕ). w * down e) k.1
    ∙ mul_assoc b (down d) (down e)
    ∙ ap (λ (w : ℕ). b * w) (mul_comm (down d) (down e)))
add-values nan y s t a b l L h k = absurd h
add-values (inf u) y s t a b l L h k = absurd h
add-values (fin u m e) nan s t a b l L h k = absurd k
add-values (fin u m e) (inf v) s t a b l L h k = absurd k

-- in units of 2 ^ -2148
pub add-units : (x y : Float) (s t : Bool) (a b c d : ℕ) → HasValue x s a (2 ^ lowest) → HasValue y t b (2 ^ lowest) → a * 2 ^ lowest ≡ c → b * 2 ^ lowest ≡ d
    → add binary64 x y ≡ sum binary64 s c t d den
add-units x y s t a b c d X Y C D =
    add-values x y s t a b (2 ^ lowest) (pow_pos lowest) X Y
    ∙ sum_same binary64 s t a b (2 ^ lowest) c d den (pow_pos lowest) (pow_pos (lowest + lowest)) (wider a c C) (wider b d D)
  where
    wider : (a c : ℕ) → a * 2 ^ lowest ≡ c → a * den ≡ c * 2 ^ lowest
    wider a c e = ap (λ (q : ℕ). a * q) (pow-add 2 lowest lowest) ∙ sym (mul_assoc a (2 ^ lowest) (2 ^ lowest)) ∙ ap (λ (q : ℕ). q * 2 ^ lowest) e

neg_value : (y : Float) (t : Bool) (b l : ℕ) → HasValue y t b l → HasValue (neg y) (not t) b l
unfolding neg
neg_value nan t b l h = absurd h
neg_value (inf v) t b l h = absurd h
neg_value (fin v n d) t b l h = (ap not h.0, h.1)

pub sub-values : (x y : Float) (s t : Bool) (a b l : ℕ) → 0 < l → HasValue x s a l → HasValue y t b l → sub binary64 x y ≡ sum binary64 s a (not t) b l
unfolding sub
sub-values x y s t a b l L h k = add-values x (neg y) s (not t) a b l L h (neg_value y t b l k)

-- ---- three finite values, by their magnitudes

pub fma-values : (x y z : Float) (s t u : Bool) (n k p : ℕ) → HasValue x s n (2 ^ lowest) → HasValue y t k (2 ^ lowest) → HasValue z u p (2 ^ lowest)
    → sum binary64 (unlike s t) (n * k) u (p * 2 ^ lowest) den ≡ fma x y z
unfolding fma fma_fin
fma-values (fin s' m e) (fin t' n' d) (fin u' q c) s t u n k p X Y Z =
    let l = 2 ^ lowest in
    let de = down e in
    let dd = down d in
    let dc = down c in
    sym
    (sum_same binary64 (unlike s' t') u' (m * up e * (n' * up d) * dc) (q * up c * (de * dd)) (de * dd * dc) (n * k) (p * l) (l * l)
    (mul-pos (mul-pos (down_pos e) (down_pos d)) (down_pos c)) (mul-pos (pow_pos lowest) (pow_pos lowest))
    (sort₁ (m * up e) (n' * up d) dc l ∙ ap (λ (w : ℕ). w * (n' * up d * l) * dc) X.1 ∙ ap (λ (w : ℕ). n * de * w * dc) Y.1 ∙ sort₂ n de k dd dc)
    (sort₃ (q * up c) de dd l ∙ ap (λ (w : ℕ). w * l * (de * dd)) Z.1 ∙ sort₄ p dc l de dd)
    ∙ ap (λ (w : ℕ). sum binary64 (unlike s' t') (n * k) u' (p * l) w) (sym (pow-add 2 lowest lowest))
    ∙ ap (λ (w : Bool). sum binary64 (unlike w t') (n * k) u' (p * l) den) X.0
    ∙ ap (λ (w : Bool). sum binary64 (unlike s w) (n * k) u' (p * l) den) Y.0
    ∙ ap (λ (w : Bool). sum binary64 (unlike s t) (n * k) w (p * l) den) Z.0)
  where
    sort₁ : (a b c l : ℕ) → a * b * c * (l * l) ≡ a * l * (b * l) * c
    sort₁ a b c l = simp (mul_assoc, mul_comm, mul_left_comm)

    sort₂ : (n a k b c : ℕ) → n * a * (k * b) * c ≡ n * k * (a * b * c)
    sort₂ n a k b c = simp (mul_assoc, mul_left_comm)

    sort₃ : (a b c l : ℕ) → a * (b * c) * (l * l) ≡ a * l * l * (b * c)
    sort₃ a b c l = simp (mul_assoc, mul_comm, mul_left_comm)

    sort₄ : (p c l a b : ℕ) → p * c * l * (a * b) ≡ p * l * (a * b * c)
    sort₄ p c l a b = simp (mul_assoc, mul_comm, mul_left_comm)
fma-values nan y z s t u n k p X Y Z = absurd X
fma-values (inf a) y z s t u n k p X Y Z = absurd X
fma-values (fin a m e) nan z s t u n k p X Y Z = absurd Y
fma-values (fin a m e) (inf b) z s t u n k p X Y Z = absurd Y
fma-values (fin a m e) (fin b o d) nan s t u n k p X Y Z = absurd Z
fma-values (fin a m e) (fin b o d) (inf w) s t u n k p X Y Z = absurd Z
