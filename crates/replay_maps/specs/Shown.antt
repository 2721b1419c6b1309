-- The replay: a display value, held to a stored word of two's complement. Definitions only.
use Rattle.std.specs.Prelude.{Bool, false, cond, ◌&&◌, List, ℕ, ◌+◌, ◌-◌, eqb, ltb, ℤ, pos, neg_ℤ, get_or, Float}
use Rattle.std.specs.Int.{w64}
use Rattle.std.proofs.Common.{of_z}
use Rattle.binary64.specs.Binary64.{at}
use Rattle.display.specs.Display.{largest, display_refusal, shown}
use Rattle.replay_words.specs.Words.{same_word}

-- the whole number of a word; what no display value is becomes the next above the largest
unfoldable pub signed : ℕ → ℤ
signed n =
    let size = 0xffff_ffff_ffff_ffff - n in
    cond (ltb largest n) (cond (ltb size largest) (neg_ℤ (pos (size + 1))) (pos (largest + 1))) (pos n)

-- a number in henries, then a refusal and the whole nanohenries
abbrev pub display : List Float → List ℕ → Bool
display f w =
    let r = display_refusal (at f 0) in
    same_word r w 1 && eqb (of_z w64 (cond (eqb r 0) (shown (at f 0)) (pos 0))) (of_z w64 (signed (get_or w 2 0)))

-- by the kind's number
unfoldable pub shown_agree : ℕ → List Float → List ℕ → Bool
shown_agree kind f w = cond (eqb kind 35) (display f w) false
