-- A node's row is its three coordinates' bits.
use mathlib.Core.Path.{◌≡◌, subst}
use mathlib.Core.List.{List, []}
use Prim.Native.Nat.{ℕ}
use native.Mathlib.Omega.{arith}
use borrow.Author.Rules.{rules}
use lib.Ieee.{nan}
use lib.ListN.{get_or}
use Rattle.binary64.specs.Binary64.{at}
use Rattle.lists.specs.Putting.{Put}
use Rattle.ieee754.specs.Ieee754.{canonical_bits}
use Rattle.mesh.specs.Mesh.{mesh_of}
use Rattle.panel_file.specs.LittleEndian.{three_fields}
use Rattle.panel_file.specs.PanelFile.{encode_node}
use Rattle.panel_file.proofs.RoundTrip.{node-length}
use Rattle.panel_file_write.proofs.Rows.{begun, next_room, further, all_put}
use Rattle.panel_file_write.proofs.put_nodes.Goals as goal

pub loop-k-init : goal.loop-k-init
loop-k-init c = let a = c.args in begun 24 (node-length (mesh_of a.x.now a.y.now a.z.now [] [] [])) c.requires.1

pub put_three-to-requires : goal.put_three-to-requires
put_three-to-requires c =
    let a = c.args in
    (omega arith, next_room 24 (node-length (mesh_of a.x.now a.y.now a.z.now [] [] [])) c.requires.1 c.loop-k.invariant c.loop-k-test.true)

pub loop-k-preserved : goal.loop-k-preserved
unfolding encode_node
loop-k-preserved c =
    let a = c.args in
    let k = c.loop-k.k in
    let p = c.put_three-to in
    let w = c.map.result in
    let item = c.map.ensures.items.at in
    let x : get_or w 0 0 ≡ canonical_bits (at a.x.now k) = let i = item 0 nan 0 (omega arith) in search rules in
    let y : get_or w 1 0 ≡ canonical_bits (at a.y.now k) = let i = item 1 nan 0 (omega arith) in search rules in
    let z : get_or w 2 0 ≡ canonical_bits (at a.z.now k) = let i = item 2 nan 0 (omega arith) in search rules in
    further 24 (node-length (mesh_of a.x.now a.y.now a.z.now [] [] [])) c.requires.1 c.loop-k.invariant c.loop-k-test.true p.auto.out
    (subst (λ (t : List ℕ). Put c.loop-k.out c.loop-k.to t p.new.out p.result) (λ i. three_fields 8 (x i) (y i) (z i)) p.ensures)

pub returns : goal.returns
returns c =
    let a = c.args in
    record {
      put = all_put 24 (node-length (mesh_of a.x.now a.y.now a.z.now [] [] [])) c.requires.1 c.loop-k.invariant (omega arith);
      held = record { x = c.type_inv.x; y = c.type_inv.y; z = c.type_inv.z };
    }
