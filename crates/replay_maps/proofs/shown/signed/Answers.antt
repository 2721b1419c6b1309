-- A size of at most 10^15 fits a signed word, and so does its negative.
use Prim.Native.Nat.{◌+◌, ◌-◌, ◌≤◌}
use native.Mathlib.Omega.{arith}
use borrow.Author.Tests.{lt-ltb, le-ltb}
use borrow.Author.Rules.{rules}
use Rattle.display.specs.Display.{largest}
use Rattle.display.proofs.Range.{in_word, negative-word}
use Rattle.replay_maps.specs.Shown.{signed}
use Rattle.replay_maps.proofs.shown.signed.Goals as goal

pub returns-then-size-lt1000000000000000 : goal.returns-then-size-lt1000000000000000
unfolding signed
returns-then-size-lt1000000000000000 c =
    let n = c.args.n in
    let h : 0xffff_ffff_ffff_ffff - n + 1 ≤ largest = omega (arith, c.if-size-lt1000000000000000.true) in
    rw (lt-ltb _ _ c.if-n-gt1000000000000000.true, lt-ltb _ _ c.if-size-lt1000000000000000.true) (negative-word (0xffff_ffff_ffff_ffff - n + 1) h)

pub returns-then-n-gt1000000000000000 : goal.returns-then-n-gt1000000000000000
unfolding signed
returns-then-n-gt1000000000000000 c = rw (lt-ltb _ _ c.if-n-gt1000000000000000.true, le-ltb _ _ c.if-size-lt1000000000000000.false) (search rules)

pub returns : goal.returns
unfolding signed
returns c =
    let n = c.args.n in
    let h : n ≤ largest = omega (arith, c.if-n-gt1000000000000000.false) in
    rw (le-ltb _ _ c.if-n-gt1000000000000000.false) (in_word n h)
