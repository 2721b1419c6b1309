-- 0 is 0, where both words are: `finish_zero`.
use Rattle.std.proofs.Common.{◌≡◌, ℕ, ◌+◌, ◌*◌, ◌^◌, arith}
use Rattle.fused_integer.specs.Words.{words}
use Rattle.fused_integer.proofs.Laws.Words.{or-none}
use Rattle.fused_integer.proofs.Laws.Finishing.{finish_zero}
use Rattle.fused_integer.proofs.finish.Goals as goal

pub returns-then-w-eq0 : goal.returns-then-w-eq0
returns-then-w-eq0 c =
    let o = or-none c.args.w.hi c.args.w.lo c.if-w-eq0.true in
    finish_zero (words c.args.w) c.args.g (none c.args.w.hi c.args.w.lo o.0 o.1)
  where
    none : (hi lo : ℕ) → hi ≡ 0 → lo ≡ 0 → hi * 2 ^ 64 + lo ≡ 0
    none hi lo h l = omega arith
