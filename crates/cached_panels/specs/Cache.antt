-- Inner form: panels' own numbers in one array: the corners are in the mesh's columns already. Definitions only.
use Rattle.std.specs.Prelude.{◌≡◌, List, [], ℕ, ◌<◌, ◌≤◌, length, get_or, replicate}
use Rattle.std.specs.Float.{nan}
use Rattle.binary64.specs.Binary64.{plus_zero}
use Rattle.mesh.specs.Mesh.{Mesh, ntri, triangle_nodes, max_panels}
use Rattle.pair.specs.declared.Panel.{Panel}
use Rattle.pair.specs.Pair.{panel_numbers}
use Rattle.cached_panels.specs.declared.CachedNumbers.{CachedNumbers}

-- none of them written
abbrev pub unwritten : CachedNumbers
unwritten = record { area = plus_zero; edge = plus_zero; bounds = record { lo = replicate 3 plus_zero; hi = replicate 3 plus_zero }; densities = replicate 3 (replicate 3 plus_zero) }

-- those of as many panels as there may be
unfoldable pub room : List CachedNumbers
room = replicate max_panels unwritten

-- area, longest edge squared, box, densities
abbrev pub besides_corners : Panel → CachedNumbers
besides_corners p = record { area = p.area; edge = p.edge; bounds = p.bounds; densities = p.densities }

-- what is read behind the array's end
abbrev pub absent : CachedNumbers
absent = record { area = nan; edge = nan; bounds = record { lo = []; hi = [] }; densities = [] }

-- the first k panels' numbers stand in the array
abbrev pub Cached : ℕ → Mesh → List CachedNumbers → Type 0
Cached k m cache = (j : ℕ) → j < k → get_or cache j absent ≡ besides_corners (panel_numbers (triangle_nodes m j))

-- what the loops over pairs ask: every panel's numbers, in an array that is long enough
pub record AllCached (m : Mesh) (cache : List CachedNumbers) : Type 0 where
  pub long : ntri m ≤ length cache
  pub holds : Cached (ntri m) m cache
