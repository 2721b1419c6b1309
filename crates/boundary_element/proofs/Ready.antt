-- What a call that is done has: an accepted mesh, a nodal value for each node and outputs of one number a panel.
use mathlib.Core.Path.{◌≡◌}
use mathlib.Core.List.{List}
use lib.Ieee.{Float}
use lib.ListN.{length}
use Rattle.mesh.specs.Mesh.{Mesh, nnode, ntri, max_nodes, max_panels}
use Rattle.refusal.proofs.Tests.{differ_off}
use Rattle.lists.proofs.Columns.{columns_off}
use Rattle.mesh.proofs.Refusals.{mesh-accepted}
use Rattle.boundary_element.specs.CurrentDensity.{density_checks, density_refusal, DensityReady}

pub density_ready : (m : Mesh) (s a b c : List Float) → density_refusal m (length s) (length a) (length b) (length c) ≡ 0 → DensityReady m s a b c
unfolding density_refusal
density_ready m s a b c e =
    let w = mesh-accepted max_nodes max_panels m (density_checks (nnode m) (ntri m) (length s) (length a) (length b) (length c)) tt e in
    record { accepted = w.0; values = (differ_off _ _).0 w.1.0; due = (columns_off (ntri m) (length a) (length b) (length c)).0 w.1.1.0 }
