-- A copy is as long as what it holds.
use mathlib.Core.Path.{◌≡◌, ap}
use mathlib.Core.List.{List}
use Prim.Native.Nat.{◌-◌, ◌≤◌}
use native.Mathlib.Omega.{arith}
use lib.ListN.{length, length-take}
use Rattle.replay_words.specs.Words.{part}

module _ {A : Type 0} where
  pub copy_long : (v copy : List A) → part copy 0 (length v) ≡ v → length v ≤ length copy
  copy_long v copy e = omega (arith, ap length e, length-take (length v - 0) copy)
