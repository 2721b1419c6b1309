-- A call's `Result` handed out as its number and what is lent: of an equal answer it is the same, and a block's own refusal writes nothing.
use mathlib.Core.Path.{◌≡◌, refl, sym, ap, subst}
use mathlib.Core.List.{List}
use lib.Ieee.{Float}
use Rattle.std.specs.Prelude.{Result, Ok, Err}
use Rattle.binary64.specs.Binary64.{plus_zero}
use Rattle.refusal.specs.Outcome.{number, number_of, value_or}
use Rattle.refusal.specs.declared.Refusal.{Refusal}
use Rattle.refusal.proofs.Checks.{after-done}
use Rattle.refusal.proofs.Outcome.{after_refusal}
use Rattle.coupling.specs.Calls.{Answer, BlockAnswer, answered, block_answered}
use Rattle.screens_panels.specs.Screens.{Valued, WroteBlock}

pub valued : (r : Result Float Refusal) (b : Answer) → answered r ≡ b → Valued b (number_of r) (value_or plus_zero r)
valued r b e = record { number = ap (λ (k : Answer). k.refusal) e; lent = ap (λ (k : Answer). k.value) e }

pub stopped : (r : Refusal) (b : BlockAnswer) (out : List Float) → block_answered (Err r) ≡ b → WroteBlock b out (number r) out
stopped r b out e =
    subst (λ (k : BlockAnswer). WroteBlock k out (number r) out) e (record { number = refl; buffer = sym (after_refusal r _ out) })

pub passed : (v : List Float) (b : BlockAnswer) (out : List Float) → block_answered (Ok v) ≡ b → WroteBlock b out 0 v
passed v b out e = subst (λ (k : BlockAnswer). WroteBlock k out 0 v) e (record { number = refl; buffer = sym (after-done 0 v out refl) })
