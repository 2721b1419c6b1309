-- The eight bytes at the place are compared as a slice.
use native.Mathlib.Omega.{arith}
use mathlib.Core.Path.{◌≡◌}
use Prim.Native.Nat.{◌+◌, ◌*◌, ◌-◌}
use Rattle.shape_store.specs.Store.{name_length}
use Rattle.shape_store.proofs.Found.{same_bytes}
use Rattle.shape_store.proofs.same_name.Goals as goal

pub returns : goal.returns
returns c =
    let a = c.args in
    let w : a.p * name_length + name_length - a.p * name_length ≡ name_length = omega arith in
    same_bytes a.names.now a.name.now a.p _ c.requires.0 c.told-name c.requires.1 (rw w at c.eq.ensures)
