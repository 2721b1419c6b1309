-- A rule's row is the one at its place; the last arm has the places whose turn is neither 0 nor 1.
use mathlib.Core.Path.{◌≡◌}
use Prim.Native.Nat.{◌+◌, ◌/◌, ◌<◌}
use native.Mathlib.Omega.{arith}
use borrow.Author.Tests.{ne_eqb}
use Rattle.tri.specs.Quadrature.{quadrature_row}
use Rattle.tri.specs.Groups.{groups, group_count, turned, placed}
use Rattle.tri.proofs.Groups.{in_groups, row_placed}
use Rattle.tri.proofs.quadrature.quadrature_row.Goals as goal

pub overflow_add-place : goal.overflow_add-place
unfolding groups
overflow_add-place c =
    let within : (c.first_place.result + c.args.k) / 3 < group_count = rw c.first_place.ensures (in_groups c.args.kind c.args.k c.requires) in
    omega (arith, within)

pub returns-in_default : goal.returns-in_default
unfolding turned
returns-in_default c =
    let row : quadrature_row c.args.kind c.args.k ≡ placed (c.first_place.result + c.args.k) = rw c.first_place.ensures (row_placed c.args.kind c.args.k c.requires) in
    let r = c.in_default.in_default-own.rest in
    rw (c.group-g.ensures, row, ne_eqb _ _ r.0.1, ne_eqb _ _ r.1)
