-- Each column is put over one as long.
use mathlib.Core.Path.{sym, ◌∙◌}
use Rattle.lists.proofs.Putting.{put_whole}
use Rattle.shape_return.specs.Return.{nodes_of}
use Rattle.shape_return.proofs.set_nodes.Goals as goal

pub returns : goal.returns
returns c =
    let a = c.args in
    let n = sym c.requires.as_many in
    let w = c.requires.node_columns_alike in
    let v = c.requires.node_columns_alike_2 in
    let s = a.shape.now in
    let x = put_whole a.x.now s.x.now _ _ n c.put.ensures in
    let y = put_whole a.y.now s.y.now _ _ (w.ys_long ∙ n ∙ sym v.ys_long) c.put-2.ensures in
    let z = put_whole a.z.now s.z.now _ _ (w.zs_long ∙ n ∙ sym v.zs_long) c.put-3.ensures in
    λ i. nodes_of (x i) (y i) (z i)
