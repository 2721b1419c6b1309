-- What the sum's rounding left off. big is b * 2 ^ j of the smallest values, b of 53 digits, and small is no larger; s is their rounded sum. s is a multiple of
-- 2 ^ j and at most twice big, so s − big is exact (`difference`), and big + small − s is what small − (s − big) comes to (`tail`).
use mathlib.Core.Path.{◌≡◌, sym, ap, ◌∙◌, subst}
use mathlib.Core.Bool.{false}
use Prim.Native.Nat.{ℕ, suc, ◌+◌, ◌-◌, ◌*◌, ◌/◌, ◌^◌, ◌≤◌, ◌<◌}
use native.Mathlib.Nat.{le_trans, le_of_eq, lt_of_le_of_lt, lt_of_lt_of_le, add-mul, mul_assoc, mul_comm, mul-le-mul_right, le_of_mul-le-mul_right, le-add_right, pow-succ'}
use native.Mathlib.Omega.{arith}
use lib.Pow.{pow-add, pow_pos}
use lib.Ieee.{Float, binary64, round}
use lib.Ieee.Exact.{HasValue}
use Rattle.binary64.specs.Binary64.{◌⊖◌}
use Rattle.binary64.specs.Nearest.{den}
use Rattle.binary64.proofs.Values.{sub-mul}
use Rattle.fused_lanes.proofs.Laws.Rounded.{Rounded, stays_under, rounded, exact, place_top}
use Rattle.fused_lanes.proofs.Laws.Around.{Around, of_value, around_same, difference_around, less_round}
use Rattle.fused_lanes.proofs.Laws.Square.{room}
use Rattle.binary64.specs.Format.{lowest}

module _ (s big small : Float) (b j C t : ℕ) (first : 2 ^ 52 ≤ b) (top : b < 2 ^ 53) (lo : lowest ≤ t) (hi : t ≤ (place_top - 100)) (B : HasValue big false (b * 2 ^ j) (2 ^ lowest))
    (c : HasValue small false C (2 ^ lowest)) (le : C ≤ b * 2 ^ j) (R : Rounded s false ((b * 2 ^ j + C) * 2 ^ lowest) (60 + t))
    (bound : (b * 2 ^ j + C) * 2 ^ lowest < 2 ^ (54 + (60 + t))) where
  abbrev l : ℕ
  l = 2 ^ lowest

  abbrev S : ℕ
  S = R.units

  -- s in units of big's last digit
  abbrev q : ℕ
  q = S / 2 ^ j

  above : b * 2 ^ j ≤ S
  above = R.least b j top (mul-le-mul_right l (le-add_right (b * 2 ^ j) C))

  twice : b * 2 ^ suc j ≡ b * 2 ^ j + b * 2 ^ j
  twice = ap (λ (x : ℕ). b * x) (pow-succ' 2 j) ∙ ap (λ (x : ℕ). b * x) (mul_comm 2 (2 ^ j)) ∙ sym (mul_assoc b (2 ^ j) 2) ∙ double (b * 2 ^ j)
    where
      double : (x : ℕ) → x * 2 ≡ x + x
      double x = omega arith

  at_most : S ≤ b * 2 ^ j + b * 2 ^ j
  at_most = le_trans (R.most b (suc j) top (mul-le-mul_right l (le_trans (both (b * 2 ^ j) C le) (le_of_eq (sym twice))))) (le_of_eq twice)
    where
      both : (x y : ℕ) → y ≤ x → x + y ≤ x + x
      both x y h = omega arith

  multiple : q * 2 ^ j ≡ S
  multiple = R.whole j (mul-le-mul_right l (le_trans (le_of_eq (pow-add 2 52 j)) (le_trans (mul-le-mul_right (2 ^ j) first) (le-add_right (b * 2 ^ j) C))))

  few : q - b < 2 ^ 53
  few =
      less q b (le_of_mul-le-mul_right (le_trans (le_of_eq multiple) (le_trans at_most (le_of_eq (sym (add-mul b b (2 ^ j)))))) (pow_pos j)) top
    where
      less : (q b : ℕ) → q ≤ b + b → b < 2 ^ 53 → q - b < 2 ^ 53
      less q b h k = omega arith

  is : S - b * 2 ^ j ≡ (q - b) * 2 ^ j
  is = ap (λ (x : ℕ). x - b * 2 ^ j) (sym multiple) ∙ sym (sub-mul q b (2 ^ j))

  difference : HasValue (s ⊖ big) false (S - b * 2 ^ j) l
  difference =
      subst (λ (x : ℕ). HasValue (s ⊖ big) false x l) (sym is)
      (subst (λ (x : Float). HasValue x false ((q - b) * 2 ^ j) l) (sym (less_round s big S (b * 2 ^ j) R.value B above))
      (exact (round binary64 false ((S - b * 2 ^ j) * l) den) false ((S - b * 2 ^ j) * l) (61 + t) (q - b) j
      (rounded ((S - b * 2 ^ j) * l) (61 + t) (low t lo) (high t hi) small-enough false) few (ap (λ (x : ℕ). x * l) is)))
    where
      low : (t : ℕ) → lowest ≤ t → lowest ≤ 61 + t
      low t h = omega arith

      high : (t : ℕ) → t ≤ (place_top - 100) → 61 + t ≤ place_top
      high t h = omega arith

      part : (x y : ℕ) → x - y ≤ x
      part x y = omega arith

      next : (t : ℕ) → 1 + (54 + (60 + t)) ≡ 54 + (61 + t)
      next t = omega arith

      small-enough : (S - b * 2 ^ j) * l < 2 ^ (54 + (61 + t))
      small-enough =
          lt_of_le_of_lt (mul-le-mul_right l (part S (b * 2 ^ j)))
          (lt_of_lt_of_le (stays_under (S * l) ((b * 2 ^ j + C) * l) (60 + t) R.upper bound) (le_of_eq (ap (λ (x : ℕ). 2 ^ x) (next t))))

  -- (s − big) + big
  back : (S - b * 2 ^ j) * l + b * 2 ^ j * l ≡ S * l
  back = sym (add-mul (S - b * 2 ^ j) (b * 2 ^ j) l) ∙ ap (λ (x : ℕ). x * l) (whole S (b * 2 ^ j) above)
    where
      whole : (x y : ℕ) → y ≤ x → x - y + y ≡ x
      whole x y h = omega arith

  pub tail : Around (small ⊖ (s ⊖ big)) ((b * 2 ^ j + C) * 2 ^ lowest) (R.units * 2 ^ lowest) (2 ^ 7 * 2 ^ t)
  tail =
      let d = (S - b * 2 ^ j) * l in
      let v = (b * 2 ^ j + C) * l in
      around_same (small ⊖ (s ⊖ big)) (C * l + 0) (0 + d) (0 + 0 + 2 ^ (7 + t)) v (S * l) (2 ^ 7 * 2 ^ t)
      (same (C * l) (b * 2 ^ j * l) v d (S * l) (add-mul (b * 2 ^ j) C l) back) (error (2 ^ (7 + t)) (2 ^ 7 * 2 ^ t) (pow-add 2 7 t))
      (difference_around small (s ⊖ big) (C * l) 0 0 d 0 0 (7 + t) (of_value small C c) (of_value (s ⊖ big) (S - b * 2 ^ j) difference)
      (record {
        low = low t lo;
        high = high t hi;
        upper = upper (C * l) (b * 2 ^ j * l) v d (S * l) (2 ^ (60 + t)) (2 ^ t) (2 ^ (54 + (7 + t))) (add-mul (b * 2 ^ j) C l) back R.lower (pow-add 2 60 t) (room 7 t) (pow_pos t);
        lower = lower (C * l) (b * 2 ^ j * l) v d (S * l) (2 ^ (60 + t)) (2 ^ t) (2 ^ (54 + (7 + t))) (add-mul (b * 2 ^ j) C l) back R.upper (pow-add 2 60 t) (room 7 t) (pow_pos t);
      }))
    where
      low : (t : ℕ) → lowest ≤ t → lowest ≤ 7 + t
      low t h = omega arith

      high : (t : ℕ) → t ≤ (place_top - 100) → 7 + t ≤ place_top
      high t h = omega arith

      error : (x y : ℕ) → x ≡ y → 0 + 0 + x ≤ y
      error x y e = omega arith

      same : (c b v d s : ℕ) → v ≡ b + c → d + b ≡ s → c + 0 + s ≡ v + (0 + d)
      same c b v d s e f = omega arith

      upper : (c b v d s e y w : ℕ) → v ≡ b + c → d + b ≡ s → v ≤ s + e → e ≡ 2 ^ 60 * y → w ≡ 2 ^ 54 * (2 ^ 7 * y) → 0 < y → c + 0 + (0 + 0) < 0 + d + w
      upper c b v d s e y w f g h i j k = omega arith

      lower : (c b v d s e y w : ℕ) → v ≡ b + c → d + b ≡ s → s ≤ v + e → e ≡ 2 ^ 60 * y → w ≡ 2 ^ 54 * (2 ^ 7 * y) → 0 < y → 0 + d + (0 + 0) < c + 0 + w
      lower c b v d s e y w f g h i j k = omega arith
