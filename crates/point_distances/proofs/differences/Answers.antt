-- After i turns the first i rows are in place; a row is a run of n turns (`row_next`).
use mathlib.Core.Path.{◌≡◌, sym, ap, ◌∙◌}
use Prim.Native.Nat.{ℕ, ◌+◌, ◌*◌, ◌/◌, ◌<◌}
use native.Mathlib.Nat.{zero-mul, le_trans}
use native.Mathlib.Omega.{arith}
use lib.Arith.{digits_mod, digits_div}
use lib.Ieee.{Float}
use Rattle.binary64.specs.Binary64.{◌⊖◌, at}
use Rattle.lists.specs.Filling.{run}
use Rattle.lists.proofs.Filling.{run_start}
use Rattle.point_distances.specs.Distances.{difference}
use Rattle.point_distances.proofs.Turns.{row_next, row_fits, pairs_fit}
use Rattle.point_distances.proofs.differences.Goals as goal

pub loop-i-init : goal.loop-i-init
loop-i-init c =
    let a = c.args in
    let g = difference a.a.now a.x.now a.n in
    run_start a.out.now 0 (a.n * a.n) g ∙ ap (run a.out.now 0 (a.n * a.n) g) (sym (zero-mul a.n))

pub overflow_mul-i : goal.overflow_mul-i
overflow_mul-i c =
    let h : c.loop-i.i < c.args.n = omega arith in
    omega (arith, row_fits c.loop-i.i c.args.n c.args.n h, pairs_fit c.args.n c.requires.2)

pub difference_row-requires : goal.difference_row-requires
difference_row-requires c =
    let h : c.loop-i.i < c.args.n = omega arith in
    (c.requires.1, le_trans (row_fits c.loop-i.i c.args.n c.args.n h) (pairs_fit c.args.n c.requires.2))

pub loop-i-preserved : goal.loop-i-preserved
loop-i-preserved c =
    let a = c.args in
    let l = c.loop-i in
    let h : l.i < a.n = omega arith in
    let row : ℕ → Float = λ (j : ℕ). at a.a.now l.i ⊖ at a.x.now j in
    row_next a.out.now l.out _ a.n (difference a.a.now a.x.now a.n) row l.i h l.invariant c.difference_row.ensures
    (λ j m.
    ap (λ (k : ℕ). at a.a.now k ⊖ at a.x.now j) (sym (digits_div l.i m))
    ∙ ap (λ (k : ℕ). at a.a.now ((l.i * a.n + j) / a.n) ⊖ at a.x.now k) (sym (digits_mod l.i m)))

pub returns : goal.returns
returns c =
    let a = c.args in
    let l = c.loop-i in
    let z : l.i ≡ a.n = omega arith in
    l.invariant ∙ ap (λ (k : ℕ). run a.out.now 0 (a.n * a.n) (difference a.a.now a.x.now a.n) (k * a.n)) z
