-- The Boolean tests of the guided form, as facts on numbers: each `…_is` reads a test r that came out true, `leads_no` and `leads_yes` say what `leads` comes
-- to.
use Rattle.std.proofs.Common.{◌≡◌, ℕ, suc, ◌+◌, ◌*◌, ◌^◌, ◌<◌, ◌≤◌, Bool, true, false, ◌&&◌, T, ltb, leb, sym, refl, ◌∙◌, subst, le→leb, ltb→lt, lt→ltb, leb→le}
use lib.Ieee.Fits.{and_l, and_r, and_i}
use lib.Ieee.Bits.{is_true}
use Rattle.fused_guided.specs.Guided.{central, in_reach, far_above, leads, central_from, central_to, leading_place, word_bias}
use Rattle.binary64.specs.Format.{top_field}

-- both factors' fields are central
pub record Factors (ex ey : ℕ) : Type 0 where
  pub low_x : central_from ≤ ex
  pub high_x : ex < central_to
  pub low_y : central_from ≤ ey
  pub high_y : ey < central_to

factors_is : (ex ey : ℕ) → T (central ex && central ey) → Factors ex ey
factors_is ex ey t =
    let x = and_l (central ex) (central ey) t in
    let y = and_r (central ex) (central ey) t in
    record {
      low_x = leb→le central_from ex (and_l (leb central_from ex) (ltb ex central_to) x);
      high_x = ltb→lt ex central_to (and_r (leb central_from ex) (ltb ex central_to) x);
      low_y = leb→le central_from ey (and_l (leb central_from ey) (ltb ey central_to) y);
      high_y = ltb→lt ey central_to (and_r (leb central_from ey) (ltb ey central_to) y);
    }

pub record Reach (least ex ey k s : ℕ) : Type 0 where
  pub factors : Factors ex ey
  pub near_z : k < 64
  pub some : least ≤ s
  pub near_t : s < 63

pub reach_is : (least ex ey k s : ℕ) {r : Bool} → r ≡ in_reach least ex ey k s → r ≡ true → Reach least ex ey k s
reach_is least ex ey k s R e =
    let t : T (in_reach least ex ey k s) = subst T (sym e ∙ R) tt in
    let g = and_r (central ex && central ey) (ltb k 64 && (leb least s && ltb s 63)) t in
    let h = and_r (ltb k 64) (leb least s && ltb s 63) g in
    record {
      factors = factors_is ex ey (and_l (central ex && central ey) (ltb k 64 && (leb least s && ltb s 63)) t);
      near_z = ltb→lt k 64 (and_l (ltb k 64) (leb least s && ltb s 63) g);
      some = leb→le least s (and_l (leb least s) (ltb s 63) h);
      near_t = ltb→lt s 63 (and_r (leb least s) (ltb s 63) h);
    }

pub record Far (ex ey ez : ℕ) : Type 0 where
  pub factors : Factors ex ey
  pub finite_z : ez < top_field
  pub above : ex + ey ≤ ez + word_bias

pub far_is : (ex ey ez : ℕ) {r : Bool} → r ≡ far_above ex ey ez → r ≡ true → Far ex ey ez
far_is ex ey ez R e =
    let t : T (far_above ex ey ez) = subst T (sym e ∙ R) tt in
    let g = and_r (central ex && central ey) (ltb ez top_field && leb (ex + ey) (ez + word_bias)) t in
    record {
      factors = factors_is ex ey (and_l (central ex && central ey) (ltb ez top_field && leb (ex + ey) (ez + word_bias)) t);
      finite_z = ltb→lt ez top_field (and_l (ltb ez top_field) (leb (ex + ey) (ez + word_bias)) g);
      above = leb→le (ex + ey) (ez + word_bias) (and_r (ltb ez top_field) (leb (ex + ey) (ez + word_bias)) g);
    }

-- ---- where the leading digit is

pub leads_no : (x s : ℕ) → (2 ^ leading_place ≤ x * 2 ^ s → x * 2 ^ s < 2 ^ suc leading_place → ⊥) → leads x s ≡ false
unfolding leads
leads_no x s h =
    go (leb (2 ^ leading_place) (x * 2 ^ s)) (ltb (x * 2 ^ s) (2 ^ suc leading_place)) (leb→le (2 ^ leading_place) (x * 2 ^ s)) (ltb→lt (x * 2 ^ s) (2 ^ suc leading_place))
  where
    go : (a b : Bool) → (T a → 2 ^ leading_place ≤ x * 2 ^ s) → (T b → x * 2 ^ s < 2 ^ suc leading_place) → (a && b) ≡ false
    go true true p q = absurd (h (p tt) (q tt))
    go true false p q = refl
    go false b p q = refl

pub leads_yes : (x s : ℕ) → 2 ^ leading_place ≤ x * 2 ^ s → x * 2 ^ s < 2 ^ suc leading_place → leads x s ≡ true
unfolding leads
leads_yes x s lo hi =
    is_true (leb (2 ^ leading_place) (x * 2 ^ s) && ltb (x * 2 ^ s) (2 ^ suc leading_place))
    (and_i (leb (2 ^ leading_place) (x * 2 ^ s)) (ltb (x * 2 ^ s) (2 ^ suc leading_place)) (le→leb (2 ^ leading_place) (x * 2 ^ s) lo) (lt→ltb (x * 2 ^ s) (2 ^ suc leading_place) hi))

pub leads-low : (x s : ℕ) → leads x s ≡ true → 2 ^ leading_place ≤ x * 2 ^ s
unfolding leads
leads-low x s e = leb→le (2 ^ leading_place) (x * 2 ^ s) (and_l (leb (2 ^ leading_place) (x * 2 ^ s)) (ltb (x * 2 ^ s) (2 ^ suc leading_place)) (subst T (sym e) tt))

pub leads-high : (x s : ℕ) → leads x s ≡ true → x * 2 ^ s < 2 ^ suc leading_place
unfolding leads
leads-high x s e = ltb→lt (x * 2 ^ s) (2 ^ suc leading_place) (and_r (leb (2 ^ leading_place) (x * 2 ^ s)) (ltb (x * 2 ^ s) (2 ^ suc leading_place)) (subst T (sym e) tt))
