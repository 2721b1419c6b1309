-- The return's number by its conditions: behind the mesh's checks stand 6, 17 and the checks of the named shape. In a store of the due size the shape has the mesh's counts and panels,
-- so that of its own numbers 4 alone can come.
use mathlib.Core.Path.{◌≡◌, sym, ◌∙◌}
use mathlib.Core.Logic.{◌↔◌}
use mathlib.Core.Bool.{Bool, false, not, ◌||◌, true≢false}
use mathlib.Core.List.{List, []}
use Prim.Native.Nat.{ℕ, ◌+◌, ◌*◌, ◌<◌, ◌≤◌}
use lib.Dec.{eqb}
use lib.ListN.{length}
use lib.Ieee.{Float}
use Rattle.refusal.proofs.Tests.{or_off, differ_off}
use Rattle.lists.specs.Stretch.{stretch}
use Rattle.lists.proofs.Stretches.{row_end, stretch-long}
use Rattle.mesh.specs.Mesh.{Mesh, nnode, mesh_refusal, max_nodes, max_panels}
use Rattle.mesh.specs.Conditions.{NodeColumnsAlike, PanelColumnsAlike, WithinLimits, NoneMissing, ZeroArea, Accepted}
use Rattle.mesh.proofs.Refusals.{numbered, missing_on, missing_off}
use Rattle.mesh.proofs.Calls.{mesh-lacks, mesh_clear, call_done}
use Rattle.shape_store.specs.Store.{Store, places, shape_of, store_differs}
use Rattle.shape_store.specs.Conditions.{StoreSized, KnownName}
use Rattle.shape_store.proofs.Places.{store_off, name_known}
use Rattle.shape_return.specs.Return.{named_shape, shape_checks, shape_refusal, Sized}

-- ---- a place of a store of the due size
-- its stretch of each column lies within the column
pub place-room : (n p size : ℕ) → size ≡ places * n → p < places → p * n + n ≤ size
place-room n p size e l = rw e (row_end places n p l)

module _ (m : Mesh) (s : Store) (p : ℕ) (k : StoreSized (nnode m) s) (l : p < places) where
  column-long : (column : List Float) → length column ≡ places * nnode m → length (stretch column (nnode m) p) ≡ nnode m
  column-long column e = stretch-long column (nnode m) p (place-room (nnode m) p (length column) e l)

  pub shape-long : nnode (shape_of m s p) ≡ nnode m
  shape-long = column-long s.xs k.columns.first

  pub shape_alike : NodeColumnsAlike (shape_of m s p)
  shape_alike = record { ys_long = column-long s.ys k.columns.second ∙ sym shape-long; zs_long = column-long s.zs k.columns.third ∙ sym shape-long }

  -- behind an accepted mesh it has the mesh's panels, counts and indices
  module _ (a : Accepted max_nodes max_panels m) where
    pub shape-panels : PanelColumnsAlike (shape_of m s p)
    shape-panels = record { t1_long = a.panels_alike.t1_long; t2_long = a.panels_alike.t2_long }

    pub shape-limits : WithinLimits max_nodes max_panels (shape_of m s p)
    shape-limits = record { few_nodes = rw shape-long a.limits.few_nodes; few_panels = a.limits.few_panels }

    pub shape_indices : NoneMissing (shape_of m s p)
    shape_indices i b =
        let n = a.none_missing i b in
        let e = shape-long in record { below0 = rw e n.below0; below1 = rw e n.below1; below2 = rw e n.below2 }

    -- so that of its numbers 4 alone can come
    pub no_1 : mesh_refusal max_nodes max_panels (shape_of m s p) ≡ 1 → ⊥
    no_1 e = (numbered max_nodes max_panels (shape_of m s p)).is_1.0 e shape_alike

    pub no_2 : mesh_refusal max_nodes max_panels (shape_of m s p) ≡ 2 → ⊥
    no_2 e = ((numbered max_nodes max_panels (shape_of m s p)).is_2.0 e).1 shape-panels

    pub no_11 : mesh_refusal max_nodes max_panels (shape_of m s p) ≡ 11 → ⊥
    no_11 e = ((numbered max_nodes max_panels (shape_of m s p)).is_11.0 e).2 shape-limits

    pub no_3 : mesh_refusal max_nodes max_panels (shape_of m s p) ≡ 3 → ⊥
    no_3 e =
        let h = ((numbered max_nodes max_panels (shape_of m s p)).is_3.0 e).3 in
        true≢false (sym ((missing_on (shape_of m s p)).1 h) ∙ (missing_off (shape_of m s p)).1 shape_indices)

    pub is_4 : (mesh_refusal max_nodes max_panels (shape_of m s p) ≡ 4) ↔ ZeroArea (shape_of m s p)
    is_4 =
        let w = (numbered max_nodes max_panels (shape_of m s p)).is_4 in
        (λ e. (w.0 e).4, λ h. w.1 (shape_alike, shape-panels, shape-limits, shape_indices, h))

-- ---- the checks behind the mesh's
module _ (m : Mesh) (s : Store) (w : List ℕ) (size : ℕ) where
  abbrev pub differ : Bool
  differ = store_differs (nnode m) s || not (eqb size (nnode m * nnode m))

  pub sized_off : (differ ≡ false) ↔ Sized m s size
  sized_off =
      let o = store_off (nnode m) s in
      let d = differ_off size (nnode m * nnode m) in (
        (λ e. let v = or_off _ _ e in record { store = o.0 v.0; cells = d.0 v.1 }),
        λ h. rw (o.1 h.store, d.1 h.cells),
      )

  -- ---- under a rule that there is, done
  pub shape-done : (shape_refusal m s w size ≡ 0) ↔ (Accepted max_nodes max_panels m × Sized m s size × KnownName s w × Accepted max_nodes max_panels (named_shape m s w))
  unfolding shape_refusal
  shape-done =
      let v = call_done max_nodes max_panels m [] (shape_checks m s w size) Unit (λ h. h, λ h. h) tt (mesh-lacks max_nodes max_panels (named_shape m s w) 0 tt) in
      let c = mesh_clear max_nodes max_panels (named_shape m s w) in
      let n = name_known s w in (
        (λ e. let u = v.0 e in (u.1, sized_off.0 u.2.0, n.0 u.2.1.0, c.0 u.2.1.1)),
        λ h. v.1 (tt, h.0, (sized_off.1 h.1, (n.1 h.2, c.1 h.3))),
      )
