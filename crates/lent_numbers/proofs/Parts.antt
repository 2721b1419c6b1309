-- Parts put one behind the other: what stands before the next place is what was put, one part after the other.
use mathlib.Core.Path.{◌≡◌, refl, sym, ◌∙◌, ap}
use mathlib.Core.List.{List, [], ◌++◌}
use Prim.Native.Nat.{ℕ, ◌+◌, ◌≤◌}
use native.Mathlib.Nat.{le_of_eq}
use native.Mathlib.Omega.{arith}
use lib.ListN.{length, take}
use lib.Seq.{paste, take-paste, take_all, length-paste}
use lib.Ieee.{Float}

-- n numbers, the first k of them put
pub record Begun (n k : ℕ) (put out : List Float) : Type 0 where
  pub long : length out ≡ n
  pub front : take k out ≡ put

pub none : (n : ℕ) (out : List Float) → length out ≡ n → Begun n 0 [] out
none n out e = record { long = e; front = refl }

pub next : (k m : ℕ) (v : List Float) {n : ℕ} {put out out' : List Float} → out' ≡ paste out k v (length v) → Begun n k put out → length v ≡ m → k + m ≤ n → Begun n (k + m) (put ++ v) out'
next k m v {n} {put} {out} {out'} w b e l =
    let f : k + length v ≤ length out = omega (arith, b.long) in
    let t = take-paste out k v (length v) (omega arith) (le_of_eq refl) in
    record {
      long = ap length w ∙ length-paste out k v (length v) f (le_of_eq refl) ∙ b.long;
      front =
          ap (λ (j : ℕ). take (k + j) out') (sym e)
          ∙ ap (take (k + length v)) w
          ∙ t
          ∙ ap (λ (r : List Float). r ++ take (length v) v) b.front
          ∙ ap (λ (r : List Float). put ++ r) (take_all (length v) v (le_of_eq refl));
    }

pub all : {n : ℕ} {put out : List Float} → Begun n n put out → out ≡ put
all {n} {put} {out} b = sym (take_all n out (le_of_eq b.long)) ∙ b.front
