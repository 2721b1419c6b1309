-- The C interface, which the Rust has not: vectors and triangles as they are lent, and what a call with a value or a block answers and leaves. Definitions only.
use Rattle.std.specs.Prelude.{ℕ, ◌≡◌, List, Float}
use Rattle.std.specs.Borrow.{Bor}
use denote.Triple.Both.{Both}
use Rattle.refusal.specs.Checks.{after}
use Rattle.tri.specs.Mapping.{Tri}
use Rattle.panel_points.specs.Points as Points
use Rattle.coupling.specs.Calls.{Answer, BlockAnswer}

-- lent numbers, as passed
abbrev pub vector : {X : Type 0} → Both (Bor (List Float)) X → List Float
vector v = v.entry.now

-- the triangle of nine lent numbers, corner after corner
abbrev pub triangle : {X : Type 0} → Both (Bor (List Float)) X → Tri
triangle t = Points.triangle (vector t)

-- an answer with a value, as a number and a lent number
pub record Valued (a : Answer) (r : ℕ) (value : Float) : Type 0 where
  pub number : r ≡ a.refusal
  pub lent : value ≡ a.value

-- a block's answer, as a number and a lent array, which a refusal leaves as it was
pub record WroteBlock (a : BlockAnswer) (out : List Float) (r : ℕ) (out' : List Float) : Type 0 where
  pub number : r ≡ a.refusal
  pub buffer : out' ≡ after r a.values out
