-- When k bytes are left, n is the number of those above them, and fits them.
use mathlib.Core.Path.{◌≡◌, ap, ◌∙◌}
use Prim.Native.Nat.{ℕ, ◌+◌, ◌-◌, ◌*◌, ◌≤◌, ◌<◌}
use native.Mathlib.Omega.{arith}
use Rattle.panel_file.proofs.Numbers.{room, turn, turn_bound, none_read, none_bound, all_read, all_bound}
use Rattle.panel_file.proofs.little_endian.Goals as goal

pub loop-k-init : goal.loop-k-init
loop-k-init c = (none_read _ _ _, none_bound _)

pub loop-k-preserved : goal.loop-k-preserved
loop-k-preserved c =
    let l = c.loop-k in
    let s = c.args in
    let byte : c.from.result < 256 = omega (arith, c.from.ensures, c.type_inv.bytes (s.from + (l.k - 1))) in (
      ap (λ (y : ℕ). l.n * 256 + y) c.from.ensures ∙ turn s.width l.k s.from l.n s.bytes.now c.loop-k-test.true l.auto.k l.invariant.0,
      turn_bound s.width l.k l.n _ c.loop-k-test.true l.auto.k l.invariant.1 byte,
    )

pub returns : goal.returns
returns c =
    let l = c.loop-k in
    let s = c.args in
    let z : l.k ≡ 0 = omega arith in
    record { value = all_read s.width l.k s.from l.n s.bytes.now z l.invariant.0; upper_bound = all_bound s.width l.k l.n z l.invariant.1 }

pub overflow_mul-n : goal.overflow_mul-n
overflow_mul-n c =
    let l = c.loop-k in
    let h : c.args.width - l.k ≤ 7 = omega arith in
    omega (arith, room l.n _ l.invariant.1 h)

pub overflow_add-n : goal.overflow_add-n
overflow_add-n c =
    let l = c.loop-k in
    let s = c.args in
    let h : s.width - l.k ≤ 7 = omega arith in
    omega (arith, room l.n _ l.invariant.1 h, c.from.ensures, c.type_inv.bytes (s.from + (l.k - 1)))
