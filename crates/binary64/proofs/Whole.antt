-- The whole number nearest to a fraction, `closest`: which of the quotient and the next it is, by the remainder; its bounds; and in words, that it is the one
-- number a half away at most, and even where it is a half away.
use mathlib.Core.Path.{◌≡◌, refl, sym, ap, ◌∙◌, subst}
use mathlib.Core.Logic.{◌⊎◌, inl, inr, ◌↔◌}
use mathlib.Core.Bool.{Bool, true, false, not}
use Prim.Native.Nat.{ℕ, suc, ◌+◌, ◌*◌, ◌/◌, ◌%◌, ◌≤◌, ◌<◌, compare, Ordering}
use native.Mathlib.Nat.{le_trans, le_of_eq, le_antisymm, le_of_suc-le-suc, lt_of_lt_of_le, lt_of_mul-lt-mul_right, suc-mul, mod-lt, div-add-mod', mul-le-mul_right, div-eq_of_lt, mod-eq_of_lt, eq-or-lt_of_le}
use native.Mathlib.Omega.{arith}
use lib.Dec.{T, is_le, compare_is_eq, leb→le, nleb→lt, eqb→eq, eqb_refl, ltb, ltb→lt, nltb→le}
use lib.Ieee.{nearest}
use lib.Ieee.Fits.{nearest-le}
use lib.Ieee.Nearest.{closest, nearest-ge}
use Rattle.binary64.specs.Nearest.{Near, gap, NearestWhole}

pub order : (a b : ℕ) → (a < b) ⊎ (b ≤ a)
order a b = go (ltb a b) (ltb→lt a b) (nltb→le a b)
  where
    go : (t : Bool) → (T t → a < b) → (T (not t) → b ≤ a) → (a < b) ⊎ (b ≤ a)
    go true h k = inl (h tt)
    go false h k = inr (k tt)

-- ---- what `compare` gives

pub compare_lt : (a b : ℕ) → a < b → compare a b ≡ Ordering.lt
compare_lt a b h = go (compare a b) (nleb→lt a b) (eqb→eq a b)
  where
    no₁ : b < a → a < b → ⊥
    no₁ x y = omega arith

    no₂ : a ≡ b → a < b → ⊥
    no₂ x y = omega arith

    go : (o : Ordering) → (T (not (is_le o)) → b < a) → (T (compare_is_eq o) → a ≡ b) → o ≡ Ordering.lt
    go Ordering.lt k e = refl
    go Ordering.eq k e = absurd (no₂ (e tt) h)
    go Ordering.gt k e = absurd (no₁ (k tt) h)

compare_eq : (a b : ℕ) → a ≡ b → compare a b ≡ Ordering.eq
compare_eq a b e = go (compare a b) (subst (λ (x : ℕ). T (compare_is_eq (compare a x))) e (eqb_refl a))
  where
    go : (o : Ordering) → T (compare_is_eq o) → o ≡ Ordering.eq
    go Ordering.lt t = absurd t
    go Ordering.eq t = refl
    go Ordering.gt t = absurd t

pub compare_gt : (a b : ℕ) → b < a → compare a b ≡ Ordering.gt
compare_gt a b h = go (compare a b) (leb→le a b)
  where
    no : a ≤ b → b < a → ⊥
    no x y = omega arith

    go : (o : Ordering) → (T (is_le o) → a ≤ b) → o ≡ Ordering.gt
    go Ordering.lt k = absurd (no (k tt) h)
    go Ordering.eq k = absurd (no (k tt) h)
    go Ordering.gt k = refl

-- ---- `closest` by its remainder, and at its bounds

below_half : (a b : ℕ) → a % b * 2 < b → closest a b ≡ a / b
below_half a b h = ap (nearest (a / b)) (compare_lt (a % b * 2) b h)

at_half : (a b : ℕ) → a % b * 2 ≡ b → closest a b ≡ a / b + a / b % 2
at_half a b h = ap (nearest (a / b)) (compare_eq (a % b * 2) b h)

above_half : (a b : ℕ) → b < a % b * 2 → closest a b ≡ suc (a / b)
above_half a b h = ap (nearest (a / b)) (compare_gt (a % b * 2) b h)

-- both tests in one: at a half, where r is b, the last digit of the quotient q decides
kept-below : (r q b : ℕ) → r + q % 2 ≤ b → (r ≤ b) × (r ≡ b → q % 2 ≡ 0)
kept-below r q b h = (omega arith, λ e. omega arith)

reached : (r q b : ℕ) → b < r + q % 2 → (b ≤ r) × (r ≡ b → q % 2 ≡ 1)
reached r q b h = (omega arith, λ e. omega arith)

pub closest_stays : (a b : ℕ) → a % b * 2 + a / b % 2 ≤ b → closest a b ≡ a / b
closest_stays a b h = go (kept-below (a % b * 2) (a / b) b h)
  where
    even : (q : ℕ) → q % 2 ≡ 0 → q + q % 2 ≡ q
    even q e = omega arith

    go : (a % b * 2 ≤ b) × (a % b * 2 ≡ b → a / b % 2 ≡ 0) → closest a b ≡ a / b
    go (l, e) = elim (eq-or-lt_of_le l) [
      | inl t ↦ at_half a b t ∙ even (a / b) (e t)
      | inr t ↦ below_half a b t
    ]

pub closest_next : (a b : ℕ) → b < a % b * 2 + a / b % 2 → closest a b ≡ suc (a / b)
closest_next a b h = go (reached (a % b * 2) (a / b) b h)
  where
    odd : (q : ℕ) → q % 2 ≡ 1 → q + q % 2 ≡ suc q
    odd q e = omega arith

    go : (b ≤ a % b * 2) × (a % b * 2 ≡ b → a / b % 2 ≡ 1) → closest a b ≡ suc (a / b)
    go (l, e) = elim (eq-or-lt_of_le l) [
      | inl t ↦ at_half a b (sym t) ∙ odd (a / b) (e (sym t))
      | inr t ↦ above_half a b t
    ]

pub closest_le : (a b : ℕ) → closest a b ≤ suc (a / b)
closest_le a b = nearest-le (a / b) (compare (a % b * 2) b)

pub closest_ge : (a b : ℕ) → a / b ≤ closest a b
closest_ge a b = nearest-ge (a / b) (compare (a % b * 2) b)

pub closest_none : (a b : ℕ) → a * 2 < b → closest a b ≡ 0
closest_none a b h =
    let l : a < b = less a b h in
    below_half a b (subst (λ (x : ℕ). x * 2 < b) (sym (mod-eq_of_lt l)) h) ∙ div-eq_of_lt l
  where
    less : (a b : ℕ) → a * 2 < b → a < b
    less a b h = omega arith

-- ---- a half away at most

-- the whole number nearest to a / b: the one below it or the one above
module _ (a b : ℕ) (B : 0 < b) where
  abbrev q : ℕ
  q = a / b

  whole : q * b + a % b ≡ a
  whole = div-add-mod' a b

  -- where the lower is taken, and where the upper
  abbrev Lower : ℕ → Type 0
  Lower w = (w ≡ q) × (a % b * 2 ≤ b) × (a % b * 2 ≡ b → q % 2 ≡ 0)

  abbrev Upper : ℕ → Type 0
  Upper w = (w ≡ suc q) × (b ≤ a % b * 2) × (a % b * 2 ≡ b → q % 2 ≡ 1)

  which : Lower (closest a b) ⊎ Upper (closest a b)
  which = go (order b (a % b * 2 + q % 2))
    where
      go : (b < a % b * 2 + q % 2) ⊎ (a % b * 2 + q % 2 ≤ b) → Lower (closest a b) ⊎ Upper (closest a b)
      go (inl h) =
          let t = reached (a % b * 2) q b h in
          inr (closest_next a b h, t.0, t.1)
      go (inr h) =
          let t = kept-below (a % b * 2) q b h in
          inl (closest_stays a b h, t.0, t.1)

  pub closest_near : Near (closest a b * b) a b
  closest_near = go which
    where
      under : (x r a b : ℕ) → x + r ≡ a → r * 2 ≤ b → Near x a b
      under x r a b e h = omega arith

      over : (x r a b : ℕ) → x + r ≡ a → r < b → b ≤ r * 2 → Near (x + b) a b
      over x r a b e l h = omega arith

      go : Lower (closest a b) ⊎ Upper (closest a b) → Near (closest a b * b) a b
      go (inl h) = subst (λ (w : ℕ). Near (w * b) a b) (sym h.0) (under (q * b) (a % b) a b whole h.1)
      go (inr h) =
          subst (λ (w : ℕ). Near (w * b) a b) (sym h.0)
          (subst (λ (w : ℕ). Near w a b) (sym (suc-mul q b)) (over (q * b) (a % b) a b whole (mod-lt a B) h.1))

  -- at a half the even one
  pub closest_even : gap (closest a b * b) a * 2 ≡ b → closest a b % 2 ≡ 0
  closest_even e = go which
    where
      below : (x r a b : ℕ) → x + r ≡ a → gap x a * 2 ≡ b → r * 2 ≡ b
      below x r a b w e = omega arith

      above : (x r a b : ℕ) → x + r ≡ a → r < b → gap (x + b) a * 2 ≡ b → r * 2 ≡ b
      above x r a b w l e = omega arith

      next : (q : ℕ) → q % 2 ≡ 1 → suc q % 2 ≡ 0
      next q h = omega arith

      go : Lower (closest a b) ⊎ Upper (closest a b) → closest a b % 2 ≡ 0
      go (inl h) = ap (λ (w : ℕ). w % 2) h.0 ∙ h.2 (below (q * b) (a % b) a b whole (subst (λ (w : ℕ). gap (w * b) a * 2 ≡ b) h.0 e))
      go (inr h) =
          ap (λ (w : ℕ). w % 2) h.0
          ∙ next q
          (h.2
          (above (q * b) (a % b) a b whole (mod-lt a B) (subst (λ (w : ℕ). gap w a * 2 ≡ b) (suc-mul q b) (subst (λ (w : ℕ). gap (w * b) a * 2 ≡ b) h.0 e))))

  -- no multiple is nearer
  pub closest_best : (i : ℕ) → gap (closest a b * b) a ≤ gap (i * b) a
  closest_best i = go which (order q i)
    where
      left-low : (x y r a b : ℕ) → x + r ≡ a → r * 2 ≤ b → y ≤ x → gap x a ≤ gap y a
      left-low x y r a b w h l = omega arith

      left-high : (x y r a b : ℕ) → x + r ≡ a → r * 2 ≤ b → x + b ≤ y → gap x a ≤ gap y a
      left-high x y r a b w h l = omega arith

      right_low : (x y r a b : ℕ) → x + r ≡ a → r < b → b ≤ r * 2 → y ≤ x → gap (x + b) a ≤ gap y a
      right_low x y r a b w m h l = omega arith

      right_high : (x y r a b : ℕ) → x + r ≡ a → r < b → b ≤ r * 2 → x + b ≤ y → gap (x + b) a ≤ gap y a
      right_high x y r a b w m h l = omega arith

      further : q < i → q * b + b ≤ i * b
      further h = le_trans (le_of_eq (sym (suc-mul q b))) (mul-le-mul_right b h)

      up : closest a b ≡ suc q → gap (q * b + b) a ≤ gap (i * b) a → gap (closest a b * b) a ≤ gap (i * b) a
      up e h = subst (λ (w : ℕ). gap (w * b) a ≤ gap (i * b) a) (sym e) (subst (λ (w : ℕ). gap w a ≤ gap (i * b) a) (sym (suc-mul q b)) h)

      go : Lower (closest a b) ⊎ Upper (closest a b) → (q < i) ⊎ (i ≤ q) → gap (closest a b * b) a ≤ gap (i * b) a
      go (inl h) (inl k) = subst (λ (w : ℕ). gap (w * b) a ≤ gap (i * b) a) (sym h.0) (left-high (q * b) (i * b) (a % b) a b whole h.1 (further k))
      go (inl h) (inr k) = subst (λ (w : ℕ). gap (w * b) a ≤ gap (i * b) a) (sym h.0)
          (left-low (q * b) (i * b) (a % b) a b whole h.1 (mul-le-mul_right b k))
      go (inr h) (inl k) = up h.0 (right_high (q * b) (i * b) (a % b) a b whole (mod-lt a B) h.1 (further k))
      go (inr h) (inr k) = up h.0 (right_low (q * b) (i * b) (a % b) a b whole (mod-lt a B) h.1 (mul-le-mul_right b k))

-- what lies within less than a half of r times u is rounded to r
pub closest_is : (n u r : ℕ) → 0 < u → 2 * (r * u) < 2 * n + u → 2 * n < 2 * (r * u) + u → closest n u ≡ r
closest_is n u r U lo hi = le_antisymm (under (closest n u) r (below h)) (under r (closest n u) (above h))
  where
    h : Near (closest n u * u) n u
    h = closest_near n u U

    below : Near (closest n u * u) n u → closest n u * u < r * u + u
    below g = omega (arith, g.0)

    above : Near (closest n u * u) n u → r * u < closest n u * u + u
    above g = omega (arith, g.1)

    under : (x y : ℕ) → x * u < y * u + u → x ≤ y
    under x y l = le_of_suc-le-suc (lt_of_mul-lt-mul_right u (lt_of_lt_of_le l (le_of_eq (sym (suc-mul y u)))))

-- ---- in words

-- no second whole number is the nearest
whole_only : (a b q r : ℕ) → 0 < b → NearestWhole a b q → NearestWhole a b r → q ≤ r
whole_only a b q r B g h = go (order r q)
  where
    halves : (x y : ℕ) → Near x a b → Near y a b → y + b ≤ x → (x ≡ y + b) × (gap x a * 2 ≡ b) × (gap y a * 2 ≡ b)
    halves x y g h l = (omega (arith, g.0, h.1), omega (arith, g.0, h.1), omega (arith, g.0, h.1))

    clash : (q r : ℕ) → q % 2 ≡ 0 → r % 2 ≡ 0 → r < q → q < suc (suc r) → ⊥
    clash q r e f l m = omega arith

    go : (r < q) ⊎ (q ≤ r) → q ≤ r
    go (inr l) = l
    go (inl l) =
        let t = halves (q * b) (r * b) g.near h.near (le_trans (le_of_eq (sym (suc-mul r b))) (mul-le-mul_right b l)) in
        let two : suc (suc r) * b ≡ r * b + b + b = suc-mul (suc r) b ∙ ap (λ (x : ℕ). x + b) (suc-mul r b) in
        let next : q < suc (suc r) = lt_of_mul-lt-mul_right b (omega (arith, B, t.0, two)) in
        absurd (clash q r (g.even t.1) (h.even t.2) l next)

pub closest_whole : (a b n : ℕ) → 0 < b → (n ≡ closest a b) ↔ NearestWhole a b n
closest_whole a b n B = (λ e. subst (NearestWhole a b) (sym e) is, λ h. le_antisymm (whole_only a b n (closest a b) B h is) (whole_only a b (closest a b) n B is h))
  where
    is : NearestWhole a b (closest a b)
    is = record { near = closest_near a b B; even = closest_even a b B }
