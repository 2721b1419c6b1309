-- A stretch that begins below n stretches of w elements ends within them, has its w elements, and each is the list's own.
use mathlib.Core.Path.{◌≡◌, refl, sym, ap, ◌∙◌}
use mathlib.Core.Bool.{Bool, true, false}
use mathlib.Core.List.{List, ◌++◌, append_assoc}
use Prim.Native.Nat.{ℕ, ◌+◌, ◌*◌, ◌-◌, ◌<◌, ◌≤◌}
use native.Mathlib.Nat.{suc-mul, mul-le-mul_right, le_of_eq, min-le_left}
use native.Mathlib.Omega.{arith}
use borrow.Author.Tests.{ltb-true, ltb-false}
use lib.Dec.{ltb}
use lib.ListN.{length, get_or, take, drop, take-append-drop, length-take, length-drop}
use lib.Seq.{paste, length-take-le, take_all, take_at, drop_at, take-append-le, drop-append-le, drop-drop, drop-paste, get_or-take, get_or-drop}
use Rattle.lists.specs.Stretch.{stretch}

pub row_end : (n w i : ℕ) → i < n → i * w + w ≤ n * w
row_end n w i h = rw (← suc-mul i w) (mul-le-mul_right w h)

module _ {A : Type 0} (m : List A) (w i : ℕ) where
  pub stretch-long : i * w + w ≤ length m → length (stretch m w i) ≡ w
  stretch-long h = length-take-le w (drop (i * w) m) (rw (length-drop (i * w) m) (omega arith))

  pub stretch_short : length (stretch m w i) ≤ w
  stretch_short = rw (length-take w (drop (i * w) m)) (min-le_left w (length (drop (i * w) m)))

  pub stretch_at : (d : A) (k : ℕ) → k < w → get_or (stretch m w i) k d ≡ get_or m (i * w + k) d
  stretch_at d k l = get_or-take w (drop (i * w) m) k d l ∙ get_or-drop (i * w) m k d

-- ---- one of the stretches of a list is copied over: it is the copy, every other is as it was
module _ {A : Type 0} where
  -- a part within the front of a list
  front : (a w : ℕ) (xs ys : List A) → a + w ≤ length xs → take w (drop a (xs ++ ys)) ≡ take w (drop a xs)
  front a w xs ys h =
      ap (take w) (drop-append-le a xs ys (omega arith))
      ∙ take-append-le w (drop a xs) ys (rw (length-drop a xs) (omega arith))

  module _ (d : List A) (w p : ℕ) (s : List A) (room : p * w + w ≤ length d) (long : length s ≡ w) where
    pub paste_own : stretch (paste d (p * w) s w) w p ≡ s
    paste_own =
        let at = p * w in
        let all : take w s ≡ s = take_all w s (le_of_eq long) in
        ap (λ (l : List A). take w (drop at l)) (append_assoc (take at d) (take w s) (drop (at + w) d))
        ∙ ap (take w) (drop_at (take at d) (take w s ++ drop (at + w) d) at (length-take-le at d (omega arith)))
        ∙ take_at (take w s) (drop (at + w) d) w (ap length all ∙ long)
        ∙ all

    -- a stretch before it
    paste_before : (q : ℕ) → q < p → stretch (paste d (p * w) s w) w q ≡ stretch d w q
    paste_before q l =
        let at = p * w in
        let head = length-take-le at d (omega arith) in
        let h : q * w + w ≤ length (take at d) = rw head (row_end p w q l) in
        ap (λ (r : List A). take w (drop (q * w) r)) (append_assoc (take at d) (take w s) (drop (at + w) d))
        ∙ front (q * w) w (take at d) (take w s ++ drop (at + w) d) h
        ∙ sym (front (q * w) w (take at d) (drop at d) h)
        ∙ ap (λ (r : List A). take w (drop (q * w) r)) (take-append-drop at d)

    -- one behind it
    paste_behind : (q : ℕ) → p < q → stretch (paste d (p * w) s w) w q ≡ stretch d w q
    paste_behind q l =
        let at = p * w in
        let j = q * w - (at + w) in
        let e : at + w + j ≡ q * w = omega (arith, row_end q w p l) in
        let rest = drop-paste d at s w (omega arith) (omega (arith, long)) in
        ap (take w)
        (ap (λ (k : ℕ). drop k (paste d at s w)) (sym e)
        ∙ sym (drop-drop j (at + w) (paste d at s w))
        ∙ ap (drop j) rest
        ∙ drop-drop j (at + w) d
        ∙ ap (λ (k : ℕ). drop k d) e)

    pub paste_other : (q : ℕ) → (q ≡ p → ⊥) → stretch (paste d (p * w) s w) w q ≡ stretch d w q
    paste_other q n = go (ltb q p) refl
      where
        go : (b : Bool) → ltb q p ≡ b → stretch (paste d (p * w) s w) w q ≡ stretch d w q
        go true e = paste_before q (ltb-true q p e)
        go false e = paste_behind q (omega (arith, n, ltb-false q p e))
