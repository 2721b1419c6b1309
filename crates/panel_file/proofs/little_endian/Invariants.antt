-- When k bytes are left, n is the number of those above them, and fits them.
use mathlib.Core.Path.{◌≡◌}
use Prim.Native.Nat.{◌+◌, ◌-◌, ◌^◌, ◌<◌}
use Rattle.panel_file.specs.LittleEndian.{little_endian}
use Rattle.panel_file.proofs.little_endian.Given as goal

abbrev pub invariant-loop-k : goal.invariant-loop-k
invariant-loop-k l = (l.n ≡ little_endian (l.width - l.k) l.bytes (l.from + l.k)) × (l.n < 256 ^ (l.width - l.k))
