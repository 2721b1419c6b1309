-- The return's number by its conditions: 12 stands before the mesh's checks, 6, 17 and the named shape's checks behind them, and of the shape's own numbers 4 alone can come.
-- Moves and returns one after the other from a fresh matrix end with the fresh matrix of the mesh as it then stands; and who saved a shape is back at it.
use mathlib.Core.Path.{◌≡◌, refl, sym, ap, ◌∙◌}
use mathlib.Core.Logic.{◌↔◌, ◌⊎◌, inl, inr}
use mathlib.Core.Bool.{not}
use mathlib.Core.List.{List, [], ◌∷◌, ◌++◌}
use Prim.Native.Nat.{ℕ, ◌<◌}
use lib.Dec.{T, eqb}
use lib.ListN.{length, length-set}
use lib.Ieee.{Float}
use Rattle.tri.specs.Quadrature.{quadrature_rule, NoSuchRule}
use Rattle.tri.specs.declared.quadrature.QuadratureKind.{QuadratureKind}
use Rattle.refusal.specs.Numbers.{no_such_choice, output_length, unknown_name, zero_area}
use Rattle.refusal.specs.Checks.{Check, check, first, lacks}
use Rattle.refusal.proofs.Checks.{applies-first, of_back}
use Rattle.refusal.proofs.Tests.{on}
use Rattle.mesh.specs.Mesh.{Mesh, nnode, mesh_checks, mesh_refusal, max_nodes, max_panels}
use Rattle.mesh.specs.Conditions.{ZeroArea, Refused4, Accepted}
use Rattle.mesh.proofs.Refusals.{numbered}
use Rattle.mesh.proofs.Calls.{mesh-lacks, mesh_clear, call_before, call_behind, call_twice, call_done, rule_checks, rule_passed, rule_stopped}
use Rattle.coupling.specs.Block.{mutual_inductance_block}
use Rattle.inductance.specs.Matrix.{cell, matrix}
use Rattle.node_move.specs.Move.{place_refusal, MoveClaim}
use Rattle.shape_store.specs.Store.{Store, places, name_length, lacks_name, place_of, shape_of, save_refusal, saved}
use Rattle.shape_store.specs.Conditions.{KnownName}
use Rattle.shape_store.proofs.Places.{name_known, name_unknown, place-within}
use Rattle.shape_store.proofs.Calls.{save_accepted, saved_parts}
use Rattle.shape_store.proofs.Shapes.{place-saved, shape-saved}
use Rattle.shape_return.specs.Return.{named_shape, shape_checks, shape_refusal, return_refusal, Sized, ShapeRefused4, ReturnNumbered, ReturnClaim}
use Rattle.shape_return.proofs.Numbers.{sized_off, differ, shape-done, shape-long, no_1, no_2, no_11, no_3, is_4}

module _ (number : ℕ) (m : Mesh) (s : Store) (w : List ℕ) (size : ℕ) where
  abbrev Before : Type 0
  Before = NoSuchRule number → ⊥

  abbrev post : List Check
  post = shape_checks m s w size

  -- the checks between the mesh's and the shape's
  abbrev front : List Check
  front = check output_length (differ m s w size) ∷ check unknown_name (lacks_name s w) ∷ []

  -- a number that the lengths and the name do not give is the shape's own
  behind : (k : ℕ) → T (not (eqb k 0)) → T (lacks k front) → (first post ≡ k) ↔ (Sized m s size × KnownName s w × (mesh_refusal max_nodes max_panels (named_shape m s w) ≡ k))
  unfolding mesh_refusal
  behind k z l =
      let v = of_back front (mesh_checks max_nodes max_panels (named_shape m s w)) k z l in
      let o = sized_off m s w size in
      let n = name_known s w in (
        (λ e. let u = v.0 e in (o.0 u.0.0, n.0 u.0.1.0, u.1)),
        λ h. v.1 ((o.1 h.0, (n.1 h.1, tt)), h.2),
      )

  -- of the mesh's numbers those that the shape cannot have
  module _ (k : ℕ) (z : T (not (eqb k 0))) (p : T (lacks k (rule_checks number))) (l : T (lacks k front))
      (never : Accepted max_nodes max_panels m → Sized m s size → KnownName s w → mesh_refusal max_nodes max_panels (named_shape m s w) ≡ k → ⊥) where
    own : (return_refusal (quadrature_rule number) m s w size ≡ k) ↔ (Before × (mesh_refusal max_nodes max_panels m ≡ k))
    unfolding return_refusal
    own =
        let v = call_twice max_nodes max_panels m (rule_checks number) post Before (rule_passed number) k z p in
        (λ e. let u = v.0 e in (u.0, told u.1), λ h. v.1 (h.0, inl h.1))
      where
        told : (mesh_refusal max_nodes max_panels m ≡ k) ⊎ (Accepted max_nodes max_panels m × (first post ≡ k)) → mesh_refusal max_nodes max_panels m ≡ k
        told (inl e) = e
        told (inr h) = let b = (behind k z l).0 h.1 in absurd (never h.0 b.0 b.1 b.2)

  -- the place of a known name
  abbrev place : ℕ
  place = place_of s w

  pub return_numbered : ReturnNumbered number m s w size (return_refusal (quadrature_rule number) m s w size)
  unfolding return_refusal
  return_numbered =
      let pre = rule_checks number in
      let passed = rule_passed number in
      let m₁ = named_shape m s w in
      let k = numbered max_nodes max_panels m in
      let within : KnownName s w → place < places = λ h. place-within s w ((name_known s w).1 h) in
      let w12 = call_before max_nodes max_panels m pre post Before passed no_such_choice tt tt (mesh-lacks max_nodes max_panels m₁ no_such_choice tt) in
      let w6 = call_behind max_nodes max_panels m pre post Before passed output_length tt tt tt in
      let w17 = call_behind max_nodes max_panels m pre post Before passed unknown_name tt tt tt in
      let w4 = call_twice max_nodes max_panels m pre post Before passed zero_area tt tt in
      let w0 = call_done max_nodes max_panels m pre post Before passed tt (mesh-lacks max_nodes max_panels m₁ 0 tt) in
      let f6 = applies-first [] output_length (differ m s w size) (check unknown_name (lacks_name s w) ∷ mesh_checks max_nodes max_panels m₁) tt tt (mesh-lacks max_nodes max_panels m₁ output_length tt) in
      let f17 = applies-first (check output_length (differ m s w size) ∷ []) unknown_name (lacks_name s w) (mesh_checks max_nodes max_panels m₁) tt tt (mesh-lacks max_nodes max_panels m₁ unknown_name tt) in
      let o = sized_off m s w size in
      let stop = on (differ m s w size) (Sized m s size) o in
      let n = name_known s w in
      let u = name_unknown s w in
      let clear = mesh_clear max_nodes max_panels m₁ in
      let w1 = own 1 tt tt tt (λ a d h. no_1 m s place d.store (within h) a) in
      let w2 = own 2 tt tt tt (λ a d h. no_2 m s place d.store (within h) a) in
      let w11 = own 11 tt tt tt (λ a d h. no_11 m s place d.store (within h) a) in
      let w3 = own 3 tt tt tt (λ a d h. no_3 m s place d.store (within h) a) in
      record {
        is_12 = (λ e. (rule_stopped number).0 (w12.0 e), λ h. w12.1 ((rule_stopped number).1 h));
        mesh = record {
          is_1 = (λ e. let v = w1.0 e in (v.0, k.is_1.0 v.1), λ h. w1.1 (h.0, k.is_1.1 h.1));
          is_2 = (λ e. let v = w2.0 e in (v.0, k.is_2.0 v.1), λ h. w2.1 (h.0, k.is_2.1 h.1));
          is_11 = (λ e. let v = w11.0 e in (v.0, k.is_11.0 v.1), λ h. w11.1 (h.0, k.is_11.1 h.1));
          is_3 = (λ e. let v = w3.0 e in (v.0, k.is_3.0 v.1), λ h. w3.1 (h.0, k.is_3.1 h.1));
        };
        is_6 = (λ e. let v = w6.0 e in (v.0, v.1, stop.0 (f6.0 v.2).1), λ h. w6.1 (h.0, h.1, f6.1 (tt, stop.1 h.2)));
        is_17 = (
          (λ e. let v = w17.0 e in let q = f17.0 v.2 in (record { choice = v.0; mesh = v.1; sized = o.0 q.0.0 }, u.0 q.1)),
          λ h. w17.1 (h.0.choice, h.0.mesh, f17.1 ((o.1 h.0.sized, tt), u.1 h.1)),
        );
        is_4 = (λ e. let v = w4.0 e in told v.0 v.1, back);
        is_0 = (
          (λ e. let v = w0.0 e in (record { choice = v.0; mesh = v.1; sized = o.0 v.2.0 }, n.0 v.2.1.0, clear.0 v.2.1.1)),
          λ h. w0.1 (h.0.choice, h.0.mesh, (o.1 h.0.sized, (n.1 h.1, clear.1 h.2))),
        );
      }
    where
      four : Accepted max_nodes max_panels m → Sized m s size → (h : KnownName s w) → (mesh_refusal max_nodes max_panels (named_shape m s w) ≡ zero_area) ↔ ZeroArea (named_shape m s w)
      four a d h = is_4 m s place d.store (place-within s w ((name_known s w).1 h)) a

      told : Before → (mesh_refusal max_nodes max_panels m ≡ zero_area) ⊎ (Accepted max_nodes max_panels m × (first post ≡ zero_area)) → (Before × Refused4 max_nodes max_panels m) ⊎ ShapeRefused4 Before m s w size
      told b (inl e) = inl (b, (numbered max_nodes max_panels m).is_4.0 e)
      told b (inr h) = let q = (behind zero_area tt tt).0 h.1 in inr (record { choice = b; mesh = h.0; sized = q.0 }, q.1, (four h.0 q.0 q.1).0 q.2)

      back : (Before × Refused4 max_nodes max_panels m) ⊎ ShapeRefused4 Before m s w size → first (rule_checks number ++ (mesh_checks max_nodes max_panels m ++ post)) ≡ zero_area
      back (inl h) = (call_twice max_nodes max_panels m (rule_checks number) post Before (rule_passed number) zero_area tt tt).1 (h.0, inl ((numbered max_nodes max_panels m).is_4.1 h.1))
      back (inr h) =
          let r = h.0 in
          (call_twice max_nodes max_panels m (rule_checks number) post Before (rule_passed number) zero_area tt tt).1
          (r.choice, inr (r.mesh, (behind zero_area tt tt).1 (r.sized, h.1, (four r.mesh r.sized h.1).1 h.2)))

-- ---- moves and returns one after the other
-- a node and its new place
pub record Moving : Type 0 where
  pub node : ℕ
  pub x : Float
  pub y : Float
  pub z : Float

-- a store and a name in it
pub record Returning : Type 0 where
  pub store : Store
  pub name : List ℕ

module _ (kind : QuadratureKind) where
  abbrev cells : Mesh → ℕ → ℕ → Float
  cells = cell (mutual_inductance_block kind)

  abbrev fresh : Mesh → List Float
  fresh = matrix (mutual_inductance_block kind)

  -- a call that answered 0 on m and old, and left m₁ and new
  abbrev pub Step : Moving ⊎ Returning → Mesh → List Float → ℕ → Mesh → List Float → Type 0
  Step (inl v) m old count m₁ new =
      MoveClaim Unit cells fresh (place_refusal m (length old) v.node v.x v.y v.z) m old v.node v.x v.y v.z 0 count m₁ new
  Step (inr r) m old count m₁ new = ReturnClaim Unit cells fresh (shape_refusal m r.store r.name (length old)) m r.store r.name old 0 count m₁ new

  -- such calls one after the other, each on what the call before it left
  abbrev pub Runs : List (Moving ⊎ Returning) → Mesh → List Float → Mesh → List Float → Type 0
  Runs [] m old m' new = (m' ≡ m) × (new ≡ old)
  Runs (c ∷ cs) m old m' new = (m₁ : Mesh) × (old₁ : List Float) × (count : ℕ) × Step c m old count m₁ old₁ × Runs cs m₁ old₁ m' new

  step_fresh : (c : Moving ⊎ Returning) (m : Mesh) (old : List Float) (count : ℕ) (m₁ : Mesh) (new : List Float) → Step c m old count m₁ new → old ≡ fresh m → new ≡ fresh m₁
  step_fresh (inl v) m old count m₁ new q h = q.fresh refl h ∙ ap fresh (sym (q.accepted refl).mesh)
  step_fresh (inr r) m old count m₁ new q h = q.fresh refl h ∙ ap fresh (sym (q.accepted refl).mesh)

  -- the matrix stays the fresh matrix of the mesh as it then stands
  pub runs_fresh : (cs : List (Moving ⊎ Returning)) (m : Mesh) (old : List Float) (m' : Mesh) (new : List Float) → Runs cs m old m' new → old ≡ fresh m → new ≡ fresh m'
  runs_fresh [] m old m' new q h = q.1 ∙ h ∙ ap fresh (sym q.0)
  runs_fresh (c ∷ cs) m old m' new q h = runs_fresh cs q.0 q.1 m' new q.4 (step_fresh c m old q.2 q.0 q.1 q.3 h)

  -- as many nodes as before, and the same panels
  pub record Alike (m m' : Mesh) : Type 0 where
    pub nodes : nnode m' ≡ nnode m
    pub t0_same : m'.t0 ≡ m.t0
    pub t1_same : m'.t1 ≡ m.t1
    pub t2_same : m'.t2 ≡ m.t2

  step_alike : (c : Moving ⊎ Returning) (m : Mesh) (old : List Float) (count : ℕ) (m₁ : Mesh) (new : List Float) → Step c m old count m₁ new → Alike m m₁
  step_alike (inl v) m old count m₁ new q =
      let e = (q.accepted refl).mesh in
      record { nodes = ap nnode e ∙ length-set m.xs v.node v.x; t0_same = ap (λ (n : Mesh). n.t0) e; t1_same = ap (λ (n : Mesh). n.t1) e; t2_same = ap (λ (n : Mesh). n.t2) e }
  step_alike (inr r) m old count m₁ new q =
      let e = (q.accepted refl).mesh in
      let d = (shape-done m r.store r.name (length old)).0 (sym q.number) in
      let l = place-within r.store r.name ((name_known r.store r.name).1 d.2) in
      record {
        nodes = ap nnode e ∙ shape-long m r.store (place_of r.store r.name) d.1.store l;
        t0_same = ap (λ (n : Mesh). n.t0) e;
        t1_same = ap (λ (n : Mesh). n.t1) e;
        t2_same = ap (λ (n : Mesh). n.t2) e;
      }

  runs_alike : (cs : List (Moving ⊎ Returning)) (m : Mesh) (old : List Float) (m' : Mesh) (new : List Float) → Runs cs m old m' new → Alike m m'
  runs_alike [] m old m' new q =
      let e = q.0 in
      record { nodes = ap nnode e; t0_same = ap (λ (n : Mesh). n.t0) e; t1_same = ap (λ (n : Mesh). n.t1) e; t2_same = ap (λ (n : Mesh). n.t2) e }
  runs_alike (c ∷ cs) m old m' new q =
      let a = step_alike c m old q.2 q.0 q.1 q.3 in
      let b = runs_alike cs q.0 q.1 m' new q.4 in
      record { nodes = b.nodes ∙ a.nodes; t0_same = b.t0_same ∙ a.t0_same; t1_same = b.t1_same ∙ a.t1_same; t2_same = b.t2_same ∙ a.t2_same }

  -- a shape of a store for one mesh is that for another with as many nodes and the same panels
  shape_alike : (m m' : Mesh) (s : Store) (p : ℕ) → Alike m m' → shape_of m' s p ≡ shape_of m s p
  shape_alike m m' s p a = rw (a.nodes, a.t0_same, a.t1_same, a.t2_same)

  -- a shape saved under a name, then moves and returns, then the return to that name: the mesh is the saved one; and if the matrix was its fresh matrix when it was saved, it is again
  pub save_return : (m : Mesh) (s : Store) (w : List ℕ) → save_refusal m s w ≡ 0 → length w ≡ name_length
      → (cs : List (Moving ⊎ Returning)) (old : List Float) (m₁ : Mesh) (old₁ : List Float) → Runs cs m old m₁ old₁
      → (count : ℕ) (m' : Mesh) (new : List Float) → Step (inr (record { store = saved m s w; name = w })) m₁ old₁ count m' new
      → (m' ≡ m) × (old ≡ fresh m → new ≡ fresh m)
  save_return m s w z long cs old m₁ old₁ q count m' new r =
      let k = save_accepted m s w z in
      let s' = saved m s w in
      let p = place_of s' w in
      let found = place-saved m s w _ s' k.0 k.1 k.2 long (saved_parts m s w) refl in
      let back : shape_of m₁ s' p ≡ m =
      shape_alike m m₁ s' p (runs_alike cs m old m₁ old₁ q) ∙ ap (shape_of m s') found ∙ shape-saved m s w _ s' k.0 k.1 k.2 long (saved_parts m s w) in
      ((r.accepted refl).mesh ∙ back, λ h. r.fresh refl (runs_fresh cs m old m₁ old₁ q h) ∙ ap fresh back)
