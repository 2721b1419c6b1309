-- A loop that puts rows of one length, one behind the other: where the buffer stands after k rows, and one law each of the start, of the room for the next row, of a turn and of the end.
use mathlib.Core.Path.{◌≡◌, refl, ◌∙◌, subst}
use mathlib.Core.List.{List}
use Prim.Native.Nat.{ℕ, ◌+◌, ◌*◌, ◌≤◌, ◌<◌}
use native.Mathlib.Nat.{suc-mul, mul-le-mul}
use native.Mathlib.Omega.{arith}
use lib.ListN.{length}
use Rattle.lists.specs.Putting.{Put}
use Rattle.lists.proofs.Putting.{none, both}
use Rattle.panel_file.specs.LittleEndian.{rows_from}
use Rattle.panel_file.proofs.Fields.{rows_length, more_rows}

-- of c rows, k are in place
pub record RowsTo (held : List ℕ) (from : ℕ) (row : ℕ → List ℕ) (c k : ℕ) (out : List ℕ) (to : ℕ) : Type 0 where
  pub below : k ≤ c
  pub long : length out ≡ length held
  pub put : Put held from (rows_from row 0 k) out to

-- k rows and one more, of c
one_more : (k c v : ℕ) → k < c → k * v + v ≤ c * v
one_more k c v l = let same : v ≤ v = omega arith in subst (λ (n : ℕ). n ≤ c * v) (suc-mul k v) (mul-le-mul l same)

module _ {held : List ℕ} {from : ℕ} {row : ℕ → List ℕ} {c : ℕ} (v : ℕ) (each : (k : ℕ) → length (row k) ≡ v) (room : from + c * v ≤ length held) where
  pub begun : RowsTo held from row c 0 held from
  unfolding rows_from
  begun = record { below = omega arith; long = refl; put = none held from }

  pub next_room : {k : ℕ} {out : List ℕ} {to : ℕ} → RowsTo held from row c k out to → k < c → to + v ≤ length out
  next_room {k} r l = omega (arith, room, one_more k c v l, r.long, r.put.behind, rows_length row v each 0 k)

  pub further : {k : ℕ} {out new : List ℕ} {to next : ℕ} → RowsTo held from row c k out to → k < c → length new ≡ length out → Put out to (row k) new next → RowsTo held from row c (k + 1) new next
  further {k} {out} {new} {to} {next} r l e p =
      let fits : from + length (rows_from row 0 k) ≤ length held = omega (arith, room, one_more k c v l, rows_length row v each 0 k) in
      let two = both held from (rows_from row 0 k) out to (row k) new next fits r.put p in
      record { below = omega arith; long = e ∙ r.long; put = subst (λ (t : List ℕ). Put held from t new next) (more_rows row k) two }

  pub all_put : {k : ℕ} {out : List ℕ} {to : ℕ} → RowsTo held from row c k out to → c ≤ k → Put held from (rows_from row 0 c) out to
  all_put {k} {out} {to} r l = let e : k ≡ c = omega (arith, r.below) in subst (λ (n : ℕ). Put held from (rows_from row 0 n) out to) e r.put
