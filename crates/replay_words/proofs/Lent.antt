-- A part that is lent is no longer than was asked for, so what is compared with it stands within the case.
use mathlib.Core.List.{List}
use Prim.Native.Nat.{ℕ, ◌+◌, ◌≤◌}
use native.Mathlib.Nat.{min-le_left}
use native.Mathlib.Omega.{arith}
use lib.ListN.{length, take, length-take}

module _ {A : Type 0} where
  short : (n : ℕ) (l : List A) → length (take n l) ≤ n
  short n l = rw (length-take n l) (min-le_left n (length l))

  pub at_most : (a size : ℕ) (l : List A) → a ≤ size → length (take a l) ≤ size
  at_most a size l h = omega (arith, short a l)

  pub one-within : (k a size : ℕ) (l : List A) → k + a ≤ size → k + length (take a l) ≤ size
  one-within k a size l h = omega (arith, short a l)

  pub three-within : (k a b c size : ℕ) (l m n : List A) → k + a + b + c ≤ size → k + length (take a l) + length (take b m) + length (take c n) ≤ size
  three-within k a b c size l m n h = omega (arith, short a l, short b m, short c n)

  pub four-within : (k a b c d size : ℕ) (l m n o : List A) → k + a + b + c + d ≤ size → k + length (take a l) + length (take b m) + length (take c n) + length (take d o) ≤ size
  four-within k a b c d size l m n o h = omega (arith, short a l, short b m, short c n, short d o)
