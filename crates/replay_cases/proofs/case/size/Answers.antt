-- The sum is within the bound, past it, or past a word.
use Rattle.std.proofs.Common.{◌≡◌, ◌+◌, Some, ap, arith, le-ltb, lt-ltb}
use Rattle.replay_words.specs.Words.{size_of}
use Rattle.replay_cases.proofs.case.size.Goals as goal

pub returns-in-Some-clause-value : goal.returns-in-Some-clause-value
unfolding size_of
returns-in-Some-clause-value c =
    let i = c.little_endian-inputs in
    let r = c.little_endian-results in
    let e : c.in-Some.size ≡ i.result + r.result = c.in-Some.ensures.1 in
    rw (← i.ensures.value, ← r.ensures.value, le-ltb 2048 (i.result + r.result) (omega arith)) (ap Some e)

pub returns-in_default-clause-value : goal.returns-in_default-clause-value
unfolding size_of
returns-in_default-clause-value c =
    let i = c.little_endian-inputs in
    let r = c.little_endian-results in
    let e : c.in-Some.size ≡ i.result + r.result = c.in-Some.ensures.1 in
    rw (← i.ensures.value, ← r.ensures.value, lt-ltb 2048 (i.result + r.result) (omega arith))

pub returns-in_default-2-clause-value : goal.returns-in_default-2-clause-value
unfolding size_of
returns-in_default-2-clause-value c =
    let i = c.little_endian-inputs in
    let r = c.little_endian-results in
    rw (← i.ensures.value, ← r.ensures.value, lt-ltb 2048 (i.result + r.result) (omega (arith, c.in_default.ensures)))
