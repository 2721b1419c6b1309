-- The numbers of the panels below j are cached.
use Rattle.mesh.specs.Columns.{viewed}
use Rattle.cached_panels.specs.Cache.{Cached}
use Rattle.cached_panels.proofs.cache_panels.Given as goal

abbrev pub invariant-loop-j : goal.invariant-loop-j
invariant-loop-j l = Cached l.j (viewed l.mesh) l.cache
