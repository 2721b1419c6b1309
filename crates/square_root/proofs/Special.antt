-- The roots that need no arithmetic: a NaN, a zero, an infinity and what is below zero, by their patterns.
use Rattle.std.proofs.Common.{◌≡◌, ℕ, zero, suc, ◌+◌, ◌*◌, ◌/◌, ◌%◌, ◌^◌, ◌<◌, ◌≤◌, Bool, true, false, cond, not, T, eqb, leb, sym, refl, ap, ◌∙◌, subst, true≢false, le_of_lt, lt_irrefl, mul-pos, arith, eqb→eq, leb→le, pow_pos}
use mathlib.Core.Bool.{false≢true}
use lib.Dec.{nleb→lt}
use lib.Arith.{lt_of_le-ne}
use lib.Ieee.{Float, nan, inf, fin, Format, binary64, up, down, odd, of_fields, of_bits, to_bits, fits, div}
use lib.Ieee.Fits.{down_pos}
use lib.Ieee.Exact.{HasValue, odd_sign}
use lib.Ieee.Bits.{of_bits-to_bits}
use Rattle.binary64.proofs.Pattern.{above_zero, opened}
use Rattle.binary64.specs.Operations.{square_root}
use Rattle.binary64.specs.Format.{infinity_bits, lowest, top_field}

below_zero : (f : Format) (x : Float) (v l : ℕ) → HasValue x true v l → 0 < v → square_root f x ≡ nan
unfolding square_root
below_zero f nan v l h p = absurd h
below_zero f (inf s) v l h p = absurd h
below_zero f (fin false m e) v l h p = absurd (false≢true h.0)
below_zero f (fin true zero e) v l h p = absurd (lt_irrefl 0 (above_zero zero (up e) l v (down e) h.1 p (down_pos e)))
below_zero f (fin true (suc m) e) v l h p = refl

negative_fields : (x t : ℕ) → 0 < x + t → square_root binary64 (of_fields binary64 true x t) ≡ nan
unfolding of_fields
negative_fields zero t h = below_zero binary64 (odd 53 true t 0 lowest) (t * 1) (2 ^ lowest) (odd_sign 53 true t 0 lowest) (one t h)
  where
    one : (t : ℕ) → 0 < 0 + t → 0 < t * 1
    one t h = omega arith
negative_fields (suc x) t h = go (eqb (suc x) top_field) (eqb t 0)
  where
    go : (a b : Bool) → square_root binary64 (cond a (cond b (inf true) nan) (odd 53 true (2 ^ 52 + t) x lowest)) ≡ nan
    go true true = unfold square_root in refl
    go true false = unfold square_root in refl
    go false b = below_zero binary64 (odd 53 true (2 ^ 52 + t) x lowest) ((2 ^ 52 + t) * 2 ^ x) (2 ^ lowest) (odd_sign 53 true (2 ^ 52 + t) x lowest) (mul-pos (some t) (pow_pos x))
      where
        some : (t : ℕ) → 0 < 2 ^ 52 + t
        some t = omega arith

is_negative : (b : ℕ) → 2 ^ 63 ≤ b → leb (2 ^ 63) b ≡ true
is_negative b h = go (leb (2 ^ 63) b) (nleb→lt (2 ^ 63) b)
  where
    clash : b < 2 ^ 63 → ⊥
    clash g = omega arith

    go : (c : Bool) → (T (not c) → b < 2 ^ 63) → c ≡ true
    go true k = refl
    go false k = absurd (clash (k tt))

negative_law : (b : ℕ) → 2 ^ 63 < b → b < 2 ^ 64 → square_root binary64 (of_bits binary64 b) ≡ nan
unfolding of_bits
negative_law b l h =
    let p : 0 < b % 2 ^ 63 / 2 ^ 52 + b % 2 ^ 52 = omega arith in
    ap (λ (s : Bool). square_root binary64 (of_fields binary64 s (b % 2 ^ 63 / 2 ^ 52) (b % 2 ^ 52))) (is_negative b (le_of_lt l)) ∙ negative_fields (b % 2 ^ 63 / 2 ^ 52) (b % 2 ^ 52) p

nan_fields : (x t : ℕ) → x ≡ top_field → 0 < t → of_fields binary64 false x t ≡ nan
unfolding of_fields
nan_fields zero t h p = absurd (no h)
  where
    no : ◌≡◌ {A = ℕ} 0 top_field → ⊥
    no e = omega arith
nan_fields (suc x) t h p = go (eqb (suc x) top_field) (eqb t 0) (λ (k : eqb (suc x) top_field ≡ false). true≢false (sym (ap (λ (y : ℕ). eqb y top_field) h) ∙ k)) (eqb→eq t 0)
  where
    clash : t ≡ 0 → ⊥
    clash g = omega arith

    go : (a b : Bool) → (a ≡ false → ⊥) → (T b → t ≡ 0) → cond a (cond b (inf false) nan) (odd 53 false (2 ^ 52 + t) x lowest) ≡ nan
    go true true n k = absurd (clash (k tt))
    go true false n k = refl
    go false b n k = absurd (n refl)

of_nan : square_root binary64 nan ≡ nan
unfolding square_root
of_nan = refl

not_a_number : (b : ℕ) → infinity_bits < b → b < 2 ^ 63 → square_root binary64 (of_bits binary64 b) ≡ nan
not_a_number b l h =
    let e : b / 2 ^ 52 ≡ top_field = omega arith in
    let p : 0 < b % 2 ^ 52 = omega arith in
    ap (λ (x : Float). square_root binary64 x) (opened b h ∙ nan_fields (b / 2 ^ 52) (b % 2 ^ 52) e p) ∙ of_nan

-- the pattern of what has no root
pub no_root : (b : ℕ) → infinity_bits < b → (b ≡ 2 ^ 63 → ⊥) → b < 2 ^ 64 → square_root binary64 (of_bits binary64 b) ≡ nan
no_root b l n h = go (leb (2 ^ 63) b) (leb→le (2 ^ 63) b) (nleb→lt (2 ^ 63) b)
  where
    go : (c : Bool) → (T c → 2 ^ 63 ≤ b) → (T (not c) → b < 2 ^ 63) → square_root binary64 (of_bits binary64 b) ≡ nan
    go true y z = negative_law b (lt_of_le-ne (y tt) (λ (e : 2 ^ 63 ≡ b). n (sym e))) h
    go false y z = not_a_number b l (z tt)

-- what is its own root
pub own_root : (x : Float) (b : ℕ) → T (fits binary64 x) → to_bits binary64 x ≡ b → square_root binary64 (of_bits binary64 b) ≡ of_bits binary64 b → x ≡ square_root binary64 x
own_root x b h e k =
    let o : of_bits binary64 b ≡ x = ap (λ (n : ℕ). of_bits binary64 n) (sym e) ∙ of_bits-to_bits binary64 x h in
    sym o ∙ sym k ∙ ap (λ (y : Float). square_root binary64 y) o

pub zero_root : square_root binary64 (of_bits binary64 0) ≡ of_bits binary64 0
unfolding square_root of_bits
zero_root = refl

pub minus_zero_root : square_root binary64 (of_bits binary64 0x8000_0000_0000_0000) ≡ of_bits binary64 0x8000_0000_0000_0000
unfolding square_root of_bits
minus_zero_root = refl

pub infinity_root : square_root binary64 (of_bits binary64 infinity_bits) ≡ of_bits binary64 infinity_bits
unfolding square_root of_bits
infinity_root = refl

pub nan-root : (x : Float) → x ≡ nan → x ≡ square_root binary64 x
unfolding square_root
nan-root x e = subst (λ (y : Float). y ≡ square_root binary64 y) (sym e) refl

pub zero_over_zero : div binary64 (of_bits binary64 0) (of_bits binary64 0) ≡ nan
unfolding div of_bits
zero_over_zero = refl
