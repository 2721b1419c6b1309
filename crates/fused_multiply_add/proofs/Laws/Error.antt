-- How far x * y + z with two roundings is from the exact sum, whatever the signs: each rounding errs by half a unit of its last digit at most (binary64's
-- `grid_near`), and the units are bounded by the exponents. Where product and addend cancel, the product's error stays what it was.
use Rattle.std.proofs.Common.{◌≡◌, ℕ, zero, suc, ◌+◌, ◌-◌, ◌*◌, ◌/◌, ◌^◌, ◌<◌, ◌≤◌, Bool, true, false, cond, T, sym, refl, ap, ◌∙◌, subst, le_trans, le_of_eq, lt_of_le_of_lt, mul_assoc, mul_comm, add-mul, mul-pos, zero-mul, arith, pow_pos, pow-add}
use lib.Ieee.{Float, nan, inf, fin, binary64, prec, low, size, unlike, round, add, mul}
use lib.Ieee.Exact.{HasValue}
use lib.Ieee.Order.{drop}
use lib.Ieee.Scale.{grid, finite}
use Rattle.binary64.specs.Nearest.{Near, RoundedOnce}
use Rattle.binary64.proofs.Nearest.{grid_near, near_cancel, round_value, round_finite}
use Rattle.binary64.proofs.Size.{exponent_lt}
use Rattle.fused_multiply_add.specs.Residual.{added, taken}
use Rattle.binary64.proofs.Once.{sum_once, plus_terms}
use Rattle.binary64.proofs.Values.{value_sign, value-one, value_finite, product_round, add-values}
use Rattle.binary64.specs.Format.{lowest}

-- ---- a finite sum has a finite first term

first_finite : (p z : Float) (s r : Bool) (b w l : ℕ) → HasValue z s b l → HasValue (add binary64 p z) r w l → T (finite p)
unfolding add
first_finite nan z s r b w l q h = absurd h
first_finite (inf u) nan s r b w l q h = absurd q
first_finite (inf u) (inf v) s r b w l q h = absurd q
first_finite (inf u) (fin v n d) s r b w l q h = absurd h
first_finite (fin u m e) z s r b w l q h = tt

-- ---- the two operations on ±a and ±b: the product a is rounded to g, and the sum of ±g and ±b, which is v, to w; minus where cp and cz. a is in units of
-- the smallest value's square, the others in units of the smallest value

pub record TwoRoundings (cp : Bool) (a : ℕ) (cz : Bool) (b w : ℕ) : Type 0 where
  pub g : ℕ
  pub v : ℕ
  pub exact : taken cp g cz b v ≡ added cp g cz b
  -- each errs by half a unit of its last digit at most
  pub first : Near (g * (2 ^ lowest * 2 ^ lowest)) (a * 2 ^ lowest) (2 ^ lowest * 2 ^ lowest * 2 ^ drop 53 (a * 2 ^ lowest) (2 ^ lowest * 2 ^ lowest))
  pub second : Near (w * 2 ^ lowest) (v * 2 ^ lowest) (2 ^ lowest * 2 ^ drop 53 (v * 2 ^ lowest) (2 ^ lowest))

-- ±v = ±g ± b, with the sign of v carried over
oriented : (np nz nt : Bool) (v g b : ℕ) → cond nt 0 v + (cond np g 0 + cond nz b 0) ≡ cond nt v 0 + (cond np 0 g + cond nz 0 b)
    → taken (unlike np nt) g (unlike nz nt) b v ≡ added (unlike np nt) g (unlike nz nt) b
oriented true true true v g b e = omega arith
oriented true true false v g b e = omega arith
oriented true false true v g b e = omega arith
oriented true false false v g b e = omega arith
oriented false true true v g b e = omega arith
oriented false true false v g b e = omega arith
oriented false false true v g b e = omega arith
oriented false false false v g b e = omega arith

module _ (x y z : Float) (s t u r : Bool) (n k b w : ℕ) (X : HasValue x s n (2 ^ low binary64)) (Y : HasValue y t k (2 ^ low binary64))
    (Z : HasValue z u b (2 ^ low binary64)) (W : HasValue (add binary64 (mul binary64 x y) z) r w (2 ^ low binary64)) where
  abbrev l : ℕ
  l = 2 ^ low binary64

  abbrev product : ℕ
  product = grid binary64 (n * k) (l * l)

  L : 0 < 2 ^ low binary64
  L = pow_pos (low binary64)

  first : HasValue (mul binary64 x y) (unlike s t) product l
  first =
      let e = product_round x y s t n k l L X Y in
      let f : T (finite (round binary64 (unlike s t) (n * k) (l * l))) =
      subst (λ (v : Float). T (finite v)) e (first_finite (mul binary64 x y) z u r b w l Z W) in
      subst (λ (v : Float). HasValue v (unlike s t) product l) (sym e)
      (round_value binary64 (unlike s t) (n * k) (l * l) (round_finite binary64 (unlike s t) (n * k) (l * l) f))

  once : RoundedOnce (add binary64 (mul binary64 x y) z) (unlike s t) product u b l
  once =
      subst (λ (v : Float). RoundedOnce v (unlike s t) product u b l) (sym (add-values (mul binary64 x y) z (unlike s t) u product b l L first Z))
      (sum_once (unlike s t) u product b l)

  rounded : (o : RoundedOnce (add binary64 (mul binary64 x y) z) (unlike s t) product u b l)
      → HasValue (add binary64 (mul binary64 x y) z) o.negative (grid binary64 o.size l) l
  rounded o =
      subst (λ (q : Float). HasValue q o.negative (grid binary64 o.size l) l) (sym o.rounded)
      (round_value binary64 o.negative o.size l (round_finite binary64 o.negative o.size l
      (subst (λ (q : Float). T (finite q)) o.rounded (value_finite (add binary64 (mul binary64 x y) z) r w l W))))

  two_of : (o : RoundedOnce (add binary64 (mul binary64 x y) z) (unlike s t) product u b l) → TwoRoundings (unlike (unlike s t) r) (n * k) (unlike u r) b w
  two_of o =
      let v = o.size in
      let sign : o.negative ≡ r = value_sign (add binary64 (mul binary64 x y) z) o.negative r (grid binary64 v l) w l (rounded o) W in
      let size_is : grid binary64 v l ≡ w = value-one (add binary64 (mul binary64 x y) z) o.negative r (grid binary64 v l) w l L (rounded o) W in
      record {
        g = product;
        v = v;
        exact =
            oriented (unlike s t) u r v product b
            (subst (λ (q : Bool). cond q 0 v + (cond (unlike s t) product 0 + cond u b 0) ≡ cond q v 0 + (cond (unlike s t) 0 product + cond u 0 b)) sign
            o.exact);
        first = grid_near binary64 (n * k) (l * l) (mul-pos L L);
        second = subst (λ (q : ℕ). Near (q * l) (v * l) (l * 2 ^ drop (prec binary64) (v * l) l)) size_is (grid_near binary64 v l L);
      }

  pub two_roundings : TwoRoundings (unlike (unlike s t) r) (n * k) (unlike u r) b w
  two_roundings = two_of once

  -- a product and an addend that are not negative
  pub sum-plus : unlike s t ≡ false → u ≡ false → r ≡ false
  sum-plus p q =
      sym (value_sign (add binary64 (mul binary64 x y) z) once.negative r (grid binary64 once.size l) w l (rounded once) W)
      ∙ plus_sign
    where
      plus_sign : once.negative ≡ false
      plus_sign = go (unlike s t) u p q once
        where
          go : (e f : Bool) → e ≡ false → f ≡ false → (o : RoundedOnce (add binary64 (mul binary64 x y) z) e product f b l) → o.negative ≡ false
          go false false p q o = plus_terms (add binary64 (mul binary64 x y) z) product b l o
          go true f p q o = absurd (mathlib.Core.Bool.true≢false p)
          go false true p q o = absurd (mathlib.Core.Bool.true≢false q)

-- ---- the two errors together

near_more : (v w u t : ℕ) → Near v w u → u ≤ t → Near v w t
near_more v w u t h k = omega arith

-- both sides of the rest, in other units
terms_mul : (c d : Bool) (p q z y l : ℕ) → (cond c p q + cond d z y) * l ≡ cond c (p * l) (q * l) + cond d (z * l) (y * l)
terms_mul c d p q z y l =
    add-mul (cond c p q) (cond d z y) l ∙ ap (λ (x : ℕ). x + cond d z y * l) (one c p q) ∙ ap (λ (x : ℕ). cond c (p * l) (q * l) + x) (one d z y)
  where
    one : (c : Bool) (a b : ℕ) → cond c a b * l ≡ cond c (a * l) (b * l)
    one true a b = refl
    one false a b = refl

added-mul : (cp cz : Bool) (p z l : ℕ) → added cp p cz z * l ≡ added cp (p * l) cz (z * l)
added-mul cp cz p z l = terms_mul cp cz 0 p 0 z l ∙ ap (λ (x : ℕ). cond cp x (p * l) + cond cz x (z * l)) (zero-mul l)

taken-mul : (cp cz : Bool) (p z t l : ℕ) → taken cp p cz z t * l ≡ taken cp (p * l) cz (z * l) (t * l)
taken-mul cp cz p z t l =
    add-mul t (cond cp p 0 + cond cz z 0) l
    ∙ ap (λ (x : ℕ). t * l + x) (terms_mul cp cz p 0 z 0 l ∙ ap (λ (x : ℕ). cond cp (p * l) x + cond cz (z * l) x) (zero-mul l))

-- the sum and the product exchanged for what is near them
near-total : (v w a c u : ℕ) → Near w v u → v + a ≡ c → Near (w + a) c u
near-total v w a c u h e = omega arith

near_product : (cp : Bool) (g a w y z u t : ℕ) → Near g a t → Near (w + (cond cp g 0 + y)) (cond cp 0 g + z) u
    → Near (w + (cond cp a 0 + y)) (cond cp 0 a + z) (u + t)
near_product true g a w y z u t h k = omega arith
near_product false g a w y z u t h k = omega arith

both_near : (cp cz : Bool) (a b g v w l p t : ℕ) → 0 < l → Near (g * (l * l)) (a * l) (l * l * p) → Near (w * l) (v * l) (l * t)
    → taken cp g cz b v ≡ added cp g cz b → Near (taken cp a cz (b * l) (w * l)) (added cp a cz (b * l)) (t * l + p * l)
both_near cp cz a b g v w l p t L h k e =
    let first : Near (g * l) a (p * l) =
    near_cancel (g * l) a (p * l) l L
    (subst (λ (x : ℕ). Near x (a * l) (p * l * l)) (sym (mul_assoc g l l))
    (subst (λ (x : ℕ). Near (g * (l * l)) (a * l) x) (mul_comm (l * l) p ∙ sym (mul_assoc p l l)) h)) in
    let second : Near (w * l) (v * l) (t * l) = subst (λ (x : ℕ). Near (w * l) (v * l) x) (mul_comm l t) k in
    let total : taken cp (g * l) cz (b * l) (v * l) ≡ added cp (g * l) cz (b * l) =
    sym (taken-mul cp cz g b v l) ∙ ap (λ (x : ℕ). x * l) e ∙ added-mul cp cz g b l in
    near_product cp (g * l) a (w * l) (cond cz (b * l) 0) (cond cz 0 (b * l)) (t * l) (p * l) first
    (near-total (v * l) (w * l) (cond cp (g * l) 0 + cond cz (b * l) 0) (added cp (g * l) cz (b * l)) (t * l) second total)

-- the last digit of the product is 2 ^ 53 units at most
product_unit : (a e : ℕ) → a < 2 ^ (106 + e) → 968 ≤ e → drop 53 (a * 2 ^ lowest) (2 ^ lowest * 2 ^ lowest) ≤ e - 1021
product_unit a e h E =
    let q : a * 2 ^ lowest / (2 ^ lowest * 2 ^ lowest) ≡ a / 2 ^ lowest = native.Mathlib.Nat.mul-div-mul_right a (2 ^ lowest) (pow_pos lowest) in
    subst (λ (x : ℕ). size x - 53 ≤ e - 1021) (sym q)
    (less (size (a / 2 ^ lowest)) e (lib.Ieee.Digits.size-le (a / 2 ^ lowest) (e - 968)
    (lib.Pow.shr_lt (e - 968) lowest (subst (λ (x : ℕ). a < 2 ^ x) (places e E) h))))
  where
    places : (e : ℕ) → 968 ≤ e → 106 + e ≡ e - 968 + lowest
    places e h = omega arith

    less : (z e : ℕ) → z ≤ e - 968 → z - 53 ≤ e - 1021
    less z e h = omega arith

-- the last digit of the sum: at most twice that of w
sum-unit : (v w e : ℕ) → w < 2 ^ (52 + e) → Near (w * 2 ^ lowest) (v * 2 ^ lowest) (2 ^ lowest * 2 ^ drop 53 (v * 2 ^ lowest) (2 ^ lowest))
    → drop 53 (v * 2 ^ lowest) (2 ^ lowest) ≤ e
sum-unit v w e h n = go (size v - 53) refl
  where
    q : v * 2 ^ lowest / 2 ^ lowest ≡ v
    q = native.Mathlib.Nat.mul-div_cancel v (pow_pos lowest)

    d : drop 53 (v * 2 ^ lowest) (2 ^ lowest) ≡ size v - 53
    d = ap (λ (x : ℕ). size x - 53) q

    near : Near w v (2 ^ (size v - 53))
    near = near_cancel w v (2 ^ (size v - 53)) (2 ^ lowest) (pow_pos lowest)
        (subst (λ (x : ℕ). Near (w * 2 ^ lowest) (v * 2 ^ lowest) x) (ap (λ (x : ℕ). 2 ^ lowest * 2 ^ x) d ∙ mul_comm (2 ^ lowest) (2 ^ (size v - 53))) n)

    place : (z k : ℕ) → z - 53 ≡ suc k → 52 + suc k < z
    place z k e = omega arith

    least : (v w x y z : ℕ) → v * 2 ≤ w * 2 + x → y ≤ v → y ≡ z * 2 → x ≤ z → z ≤ w
    least v w x y z a b c d = omega arith

    last : (k e : ℕ) → 51 + suc k < 52 + e → suc k ≤ e
    last k e h = omega arith

    go : (k : ℕ) → size v - 53 ≡ k → drop 53 (v * 2 ^ lowest) (2 ^ lowest) ≤ e
    go zero E = subst (λ (x : ℕ). x ≤ e) (sym (d ∙ E)) Prim.Native.Nat.zero-le
    go (suc k) E =
        let y : 2 ^ (52 + suc k) ≤ v = lib.Ieee.Digits.size_reaches v (52 + suc k) (place (size v) k E) in
        let z : 2 ^ (51 + suc k) ≤ w =
        least v w (2 ^ suc k) (2 ^ (52 + suc k)) (2 ^ (51 + suc k)) (subst (λ (x : ℕ). v * 2 ≤ w * 2 + 2 ^ x) E near.1) y (up_one k)
        (lib.Pow.pow_mono (more k)) in
        subst (λ (x : ℕ). x ≤ e) (sym (d ∙ E)) (last k e (exponent_lt (51 + suc k) (52 + e) (lt_of_le_of_lt z h)))
      where
        up_one : (k : ℕ) → 2 ^ (52 + suc k) ≡ 2 ^ (51 + suc k) * 2
        up_one k = ap (λ (x : ℕ). 2 ^ x) (same k) ∙ pow-add 2 (51 + suc k) 1
          where
            same : (k : ℕ) → 52 + suc k ≡ 51 + suc k + 1
            same k = omega arith

        more : (k : ℕ) → suc k ≤ 51 + suc k
        more k = omega arith

-- in units of 2 ^ (e - 2148), of which the product is p, z is y and the candidate c: the candidate is near the exact sum
pub candidate_error : (cp cz : Bool) (a b w e i m c p y : ℕ) → TwoRoundings cp a cz b w → a < 2 ^ (106 + e) → 1021 ≤ e → w < 2 ^ (52 + i)
    → i + lowest ≡ m + 1 + e → a ≡ p * 2 ^ e → b * 2 ^ lowest ≡ y * 2 ^ e → w * 2 ^ lowest ≡ c * 2 ^ e
    → Near (taken cp p cz y c) (added cp p cz y) (2 ^ (m + 1) + 2 ^ 53)
candidate_error cp cz a b w e i m c p y o small E lw I A B C =
    let l = 2 ^ lowest in
    let g = o.g in
    let v = o.v in
    let j = drop 53 (a * l) (l * l) in
    let t = drop 53 (v * l) l in
    let h : Near (taken cp a cz (b * l) (w * l)) (added cp a cz (b * l)) (2 ^ t * l + 2 ^ j * l) =
    both_near cp cz a b g v w l (2 ^ j) (2 ^ t) (pow_pos lowest) o.first o.second o.exact in
    let ht : 2 ^ t * l ≤ 2 ^ (m + 1) * 2 ^ e =
    le_trans (le_of_eq (sym (pow-add 2 t lowest)))
    (le_trans (lib.Pow.pow_mono (subst (λ (q : ℕ). t + lowest ≤ q) I (raise t i lowest (sum-unit v w i lw o.second))))
    (le_of_eq (pow-add 2 (m + 1) e))) in
    let hp : 2 ^ j * l ≤ 2 ^ 53 * 2 ^ e =
    le_trans (le_of_eq (sym (pow-add 2 j lowest)))
    (le_trans (lib.Pow.pow_mono (total j e E (product_unit a e small (weak e E)))) (le_of_eq (pow-add 2 53 e))) in
    let u = (2 ^ (m + 1) + 2 ^ 53) * 2 ^ e in
    let more : Near (taken cp a cz (b * l) (w * l)) (added cp a cz (b * l)) u =
    near_more (taken cp a cz (b * l) (w * l)) (added cp a cz (b * l)) (2 ^ t * l + 2 ^ j * l) u h
    (le_trans (native.Mathlib.Nat.add-le-add ht hp) (le_of_eq (sym (add-mul (2 ^ (m + 1)) (2 ^ 53) (2 ^ e))))) in
    near_cancel (taken cp p cz y c) (added cp p cz y) (2 ^ (m + 1) + 2 ^ 53) (2 ^ e) (pow_pos e)
    (subst (λ (q : ℕ). Near q (added cp p cz y * 2 ^ e) u) (sym (taken-mul cp cz p y c (2 ^ e)))
    (subst (λ (q : ℕ). Near (taken cp (p * 2 ^ e) cz (y * 2 ^ e) (c * 2 ^ e)) q u) (sym (added-mul cp cz p y (2 ^ e)))
    (subst (λ (q : ℕ). Near (taken cp q cz (y * 2 ^ e) (c * 2 ^ e)) (added cp q cz (y * 2 ^ e)) u) A
    (subst (λ (q : ℕ). Near (taken cp a cz q (c * 2 ^ e)) (added cp a cz q) u) B
    (subst (λ (q : ℕ). Near (taken cp a cz (b * l) q) (added cp a cz (b * l)) u) C more)))))
  where
    raise : (t i k : ℕ) → t ≤ i → t + k ≤ i + k
    raise t i k h = omega arith

    total : (p e : ℕ) → 1021 ≤ e → p ≤ e - 1021 → p + lowest ≤ 53 + e
    total p e h k = omega arith

    weak : (e : ℕ) → 1021 ≤ e → 968 ≤ e
    weak e h = omega arith
