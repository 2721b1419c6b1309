-- The mesh that lent columns are, as a contract names it. Definitions only.
use Rattle.std.specs.Prelude.{[]}
use Rattle.mesh.specs.Mesh.{Mesh, mesh_of}
use Rattle.mesh.specs.declared.columns.NodeColumns.{NodeColumns}
use Rattle.mesh.specs.declared.columns.PanelColumns.{PanelColumns}
use Rattle.mesh.specs.declared.columns.TriangleMeshView.{TriangleMeshView}

abbrev pub viewed_nodes : NodeColumns → Mesh
viewed_nodes n = mesh_of n.x.now n.y.now n.z.now [] [] []

abbrev pub viewed_panels : PanelColumns → Mesh
viewed_panels p = mesh_of [] [] [] p.t0.now p.t1.now p.t2.now

abbrev pub viewed : TriangleMeshView → Mesh
viewed m = mesh_of m.nodes.x.now m.nodes.y.now m.nodes.z.now m.panels.t0.now m.panels.t1.now m.panels.t2.now
