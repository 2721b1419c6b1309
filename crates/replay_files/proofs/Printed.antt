-- Bytes put at the front of a buffer are its first so many.
use mathlib.Core.Path.{◌≡◌, ap, ◌∙◌}
use mathlib.Core.List.{List}
use Prim.Native.Nat.{ℕ, ◌+◌}
use native.Mathlib.Nat.{zero-add}
use lib.ListN.{length, take, drop}
use lib.Seq.{take-append_seam}
use Rattle.lists.specs.Putting.{Put}

pub printed : (held bytes out : List ℕ) (to : ℕ) → Put held 0 bytes out to → take to out ≡ bytes
printed held bytes out to h =
    ap (λ (k : ℕ). take k out) (h.behind ∙ zero-add (length bytes))
    ∙ ap (take (length bytes)) h.leaves
    ∙ take-append_seam bytes (drop (0 + length bytes) held)
