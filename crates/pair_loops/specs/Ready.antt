-- Inner form: what the assembly's own functions ask of a mesh, a matrix, marks, flags and links. Definitions only.
use Rattle.std.specs.Prelude.{◌≡◌, Bool, List, ◌≤◌, length, Float}
use Rattle.mesh.specs.Mesh.{Mesh, nnode, ntri, max_panels}
use Rattle.mesh.specs.Conditions.{NodeColumnsAlike, PanelColumnsAlike, NoneMissing}
use Rattle.scatter.specs.declared.LinkedSet.{LinkedSet}
use Rattle.scatter.specs.Renewal.{Sized, marked}
use Rattle.scatter.specs.Links.{LinksNext}
use Rattle.scatter.specs.Flags.{Flagged}

-- columns of one length, not too many panels, every index below the node count, a matrix of the nodes and a mark for each
pub record Ready (m : Mesh) (out : List Float) (marks : List Bool) : Type 0 where
  pub nodes_alike : NodeColumnsAlike m
  pub panels_alike : PanelColumnsAlike m
  pub few_panels : ntri m ≤ max_panels
  pub none_missing : NoneMissing m
  pub sized : Sized (nnode m) out marks

-- what the loops over pairs ask besides: the flagged panels, and from each panel the next of them
pub record Scanned (m : Mesh) (marks : List Bool) (flagged : LinkedSet) : Type 0 where
  pub counted : flagged.set.count ≡ ntri m
  pub flags_long : ntri m ≤ length flagged.set.marks.now
  pub links_long : ntri m ≤ length flagged.links.now
  pub flags_made : Flagged (ntri m) m marks flagged.set.marks.now
  pub linked : LinksNext 0 (marked flagged.set.marks.now) (ntri m) flagged.links.now
