-- In each arm the index is known, and the group is that row of the tables, bit for bit.
use lib.Ieee.{div, neg, of_bits}
use Rattle.tri.specs.Quadrature.{quadrature_points}
use Rattle.tri.specs.Groups.{groups}
use Rattle.tri.proofs.quadrature.group.Goals as goal

pub returns-in-2 : goal.returns-in-2
unfolding groups quadrature_points div neg of_bits
returns-in-2 c = rw c.in-2.is
