-- The number of a mesh: each test is turned into its condition and back (`…-off`, `…-on`), and `applies-first`, the law of any list of checks, puts them in order.
use mathlib.Core.Path.{◌≡◌, sym, ◌∙◌}
use mathlib.Core.Logic.{◌↔◌, ◌⊎◌, inl, inr}
use mathlib.Core.Bool.{true, false, ◌||◌, true≢false}
use mathlib.Core.List.{List, [], ◌∷◌, ◌++◌}
use Prim.Native.Nat.{ℕ}
use native.Mathlib.Omega.{arith}
use borrow.Author.Tests.{leb-true, leb-false, lt-leb, ltb-false, le-ltb, eq-eqb}
use lib.Dec.{T, leb}
use lib.ListN.{length, get_or}
use Rattle.refusal.proofs.Tests.{on, or_off, or_on, differ_off}
use Rattle.refusal.specs.Outcome.{number}
use Rattle.refusal.specs.declared.Refusal.{Refusal}
use Rattle.refusal.proofs.Outcome.{never_0}
use Rattle.refusal.specs.Checks.{Check, check, first, Clear, lacks}
use Rattle.refusal.proofs.Checks.{none-applies, applies-first, first_stopped, first-passed}
use Rattle.lists.specs.Counting.{any_of, some_below}
use Rattle.lists.proofs.Counting.{some_where, some_at, none_at, none_below}
use Rattle.mesh.specs.Mesh.{Mesh, nnode, ntri, triangle_indices, triangle_nodes, lengths_differ, passes_limits, misses_node, is_zero_area, mesh_checks, mesh_refusal}
use Rattle.mesh.specs.Conditions.{NodeColumnsAlike, PanelColumnsAlike, WithinLimits, Below, Beyond, MissingNode, NoneMissing, ZeroArea, NoZeroArea, Accepted, Numbered}

-- ---- 1, 2, 11
lengths_off : (a b c : ℕ) → (lengths_differ a b c ≡ false) ↔ ((b ≡ a) × (c ≡ a))
unfolding lengths_differ
lengths_off a b c = (
  (λ e. let o = or_off _ _ e in ((differ_off b a).0 o.0, (differ_off c a).0 o.1)),
  λ h. rw (eq-eqb b a h.0, eq-eqb c a h.1),
)

pub nodes_off : (m : Mesh) → (lengths_differ (length m.xs) (length m.ys) (length m.zs) ≡ false) ↔ NodeColumnsAlike m
nodes_off m =
    let w = lengths_off (length m.xs) (length m.ys) (length m.zs) in
    (λ e. record { ys_long = (w.0 e).0; zs_long = (w.0 e).1 }, λ h. w.1 (h.ys_long, h.zs_long))

pub panels_off : (m : Mesh) → (lengths_differ (length m.t0) (length m.t1) (length m.t2) ≡ false) ↔ PanelColumnsAlike m
panels_off m =
    let w = lengths_off (length m.t0) (length m.t1) (length m.t2) in
    (λ e. record { t1_long = (w.0 e).0; t2_long = (w.0 e).1 }, λ h. w.1 (h.t1_long, h.t2_long))

pub limits_off : (n p : ℕ) (m : Mesh) → (passes_limits n p (nnode m) (ntri m) ≡ false) ↔ WithinLimits n p m
unfolding passes_limits
limits_off n p m = (
  (λ e. let o = or_off _ _ e in record { few_nodes = ltb-false n (nnode m) o.0; few_panels = ltb-false p (ntri m) o.1 }),
  λ h. rw (le-ltb n (nnode m) h.few_nodes, le-ltb p (ntri m) h.few_panels),
)

-- ---- 3
below_off : (m : Mesh) (i : ℕ) → (misses_node (nnode m) (triangle_indices m i) ≡ false) ↔ Below m i
unfolding misses_node any_of
below_off m i = (
  (λ e.
      let o = or_off _ _ e in
      let q = or_off _ _ o.1 in
      let r = or_off _ _ q.1 in
      record { below0 = leb-false (nnode m) _ o.0; below1 = leb-false (nnode m) _ q.0; below2 = leb-false (nnode m) _ r.0 }),
  λ h. rw (lt-leb (nnode m) _ h.below0, lt-leb (nnode m) _ h.below1, lt-leb (nnode m) _ h.below2),
)

beyond_on : (m : Mesh) (i : ℕ) → misses_node (nnode m) (triangle_indices m i) ≡ true → Beyond m i
unfolding misses_node any_of
beyond_on m i e = go (or_on _ _ e)
  where
    last : (leb (nnode m) (get_or m.t2 i 0) ≡ true) ⊎ (false ≡ true) → Beyond m i
    last (inl a) = inr (inr (leb-true (nnode m) _ a))
    last (inr a) = absurd (true≢false (sym a))

    next : (leb (nnode m) (get_or m.t1 i 0) ≡ true) ⊎ ((leb (nnode m) (get_or m.t2 i 0) || false) ≡ true) → Beyond m i
    next (inl a) = inr (inl (leb-true (nnode m) _ a))
    next (inr a) = last (or_on _ _ a)

    go : (leb (nnode m) (get_or m.t0 i 0) ≡ true) ⊎ ((leb (nnode m) (get_or m.t1 i 0) || (leb (nnode m) (get_or m.t2 i 0) || false)) ≡ true) → Beyond m i
    go (inl a) = inl (leb-true (nnode m) _ a)
    go (inr a) = next (or_on _ _ a)

not_both : (m : Mesh) (i : ℕ) → Beyond m i → Below m i → ⊥
not_both m i (inl a) b = omega (arith, b.below0)
not_both m i (inr (inl a)) b = omega (arith, b.below1)
not_both m i (inr (inr a)) b = omega (arith, b.below2)

pub missing_off : (m : Mesh) → (some_below (λ i. misses_node (nnode m) (triangle_indices m i)) (ntri m) ≡ false) ↔ NoneMissing m
missing_off m = (λ e i l. (below_off m i).0 (none_at (λ i. misses_node (nnode m) (triangle_indices m i)) (ntri m) i e l), λ h. none_below (λ i. misses_node (nnode m) (triangle_indices m i)) (ntri m) (λ i l. (below_off m i).1 (h i l)))

pub missing_on : (m : Mesh) → (some_below (λ i. misses_node (nnode m) (triangle_indices m i)) (ntri m) ≡ true) ↔ MissingNode m
missing_on m = (
  (λ e. let w = some_where (λ i. misses_node (nnode m) (triangle_indices m i)) (ntri m) e in (w.0, w.1, beyond_on m w.0 w.2)),
  λ h. some_at (λ i. misses_node (nnode m) (triangle_indices m i)) (ntri m) h.0 h.1 ((on (misses_node (nnode m) (triangle_indices m h.0)) (Below m h.0) (below_off m h.0)).1 (not_both m h.0 h.2)),
)

-- ---- 4
pub area_off : (m : Mesh) → (some_below (λ i. is_zero_area (triangle_nodes m i)) (ntri m) ≡ false) ↔ NoZeroArea m
unfolding is_zero_area
area_off m = (λ e i l. none_at (λ i. is_zero_area (triangle_nodes m i)) (ntri m) i e l, λ h. none_below (λ i. is_zero_area (triangle_nodes m i)) (ntri m) h)

pub area_on : (m : Mesh) → (some_below (λ i. is_zero_area (triangle_nodes m i)) (ntri m) ≡ true) ↔ ZeroArea m
unfolding is_zero_area
area_on m = (λ e. some_where (λ i. is_zero_area (triangle_nodes m i)) (ntri m) e, λ h. some_at (λ i. is_zero_area (triangle_nodes m i)) (ntri m) h.0 h.1 h.2)

-- ---- all of them
pub numbered : (n p : ℕ) (m : Mesh) → Numbered n p m (mesh_refusal n p m)
unfolding mesh_refusal mesh_checks
numbered n p m =
    let c1 = check 1 (lengths_differ (length m.xs) (length m.ys) (length m.zs)) in
    let c2 = check 2 (lengths_differ (length m.t0) (length m.t1) (length m.t2)) in
    let c11 = check 11 (passes_limits n p (nnode m) (ntri m)) in
    let c3 = check 3 (some_below (λ i. misses_node (nnode m) (triangle_indices m i)) (ntri m)) in
    let c4 = check 4 (some_below (λ i. is_zero_area (triangle_nodes m i)) (ntri m)) in
    let a = nodes_off m in
    let b = panels_off m in
    let l = limits_off n p m in
    let d = missing_off m in
    let w1 = applies-first [] 1 c1.applies (c2 ∷ c11 ∷ c3 ∷ c4 ∷ []) tt tt tt in
    let w2 = applies-first (c1 ∷ []) 2 c2.applies (c11 ∷ c3 ∷ c4 ∷ []) tt tt tt in
    let w11 = applies-first (c1 ∷ c2 ∷ []) 11 c11.applies (c3 ∷ c4 ∷ []) tt tt tt in
    let w3 = applies-first (c1 ∷ c2 ∷ c11 ∷ []) 3 c3.applies (c4 ∷ []) tt tt tt in
    let w4 = applies-first (c1 ∷ c2 ∷ c11 ∷ c3 ∷ []) 4 c4.applies [] tt tt tt in
    let w0 = none-applies (c1 ∷ c2 ∷ c11 ∷ c3 ∷ c4 ∷ []) tt in
    record {
      is_1 = (λ e. (on _ _ a).0 (w1.0 e).1, λ h. w1.1 (tt, (on _ _ a).1 h));
      is_2 = (λ e. let v = w2.0 e in (a.0 v.0.0, (on _ _ b).0 v.1), λ h. w2.1 ((a.1 h.0, tt), (on _ _ b).1 h.1));
      is_11 = (
        (λ e. let v = w11.0 e in (a.0 v.0.0, b.0 v.0.1.0, (on _ _ l).0 v.1)),
        λ h. w11.1 ((a.1 h.0, (b.1 h.1, tt)), (on _ _ l).1 h.2),
      );
      is_3 = (
        (λ e. let v = w3.0 e in (a.0 v.0.0, b.0 v.0.1.0, l.0 v.0.1.1.0, (missing_on m).0 v.1)),
        λ h. w3.1 ((a.1 h.0, (b.1 h.1, (l.1 h.2, tt))), (missing_on m).1 h.3),
      );
      is_4 = (
        (λ e. let v = w4.0 e in (a.0 v.0.0, b.0 v.0.1.0, l.0 v.0.1.1.0, d.0 v.0.1.1.1.0, (area_on m).0 v.1)),
        λ h. w4.1 ((a.1 h.0, (b.1 h.1, (l.1 h.2, (d.1 h.3, tt)))), (area_on m).1 h.4),
      );
      is_0 = (
        (λ e. let v = w0.0 e in record { nodes_alike = a.0 v.0; panels_alike = b.0 v.1.0; limits = l.0 v.1.1.0; none_missing = d.0 v.1.1.1.0; no_zero_area = (area_off m).0 v.1.1.1.1.0 }),
        λ h. w0.1 (a.1 h.nodes_alike, (b.1 h.panels_alike, (l.1 h.limits, (d.1 h.none_missing, ((area_off m).1 h.no_zero_area, tt))))),
      );
    }

-- ---- a call that tests more than its mesh: the mesh's number stops it, or the checks after the mesh's decide
pub mesh_stopped : (n p : ℕ) (m : Mesh) (ds : List Check) (r : ℕ) → r ≡ mesh_refusal n p m → (r ≡ 0 → ⊥) → r ≡ first (mesh_checks n p m ++ ds)
unfolding mesh_refusal
mesh_stopped n p m ds r e h = e ∙ sym (first_stopped (mesh_checks n p m) ds (λ z. h (e ∙ z)))

pub mesh-passed : (n p : ℕ) (m : Mesh) (ds : List Check) (r : ℕ) → r ≡ mesh_refusal n p m → r ≡ 0 → first (mesh_checks n p m ++ ds) ≡ first ds
unfolding mesh_refusal mesh_checks
mesh-passed n p m ds r e h = first-passed (mesh_checks n p m) ds ((none-applies (mesh_checks n p m) tt).0 (sym e ∙ h))

-- the same where a `Result` says it: the mesh's refusal, or a mesh that is done with
pub refused_by : (n p : ℕ) (m : Mesh) (ds : List Check) (r : Refusal) → number r ≡ mesh_refusal n p m → number r ≡ first (mesh_checks n p m ++ ds)
refused_by n p m ds r e = mesh_stopped n p m ds (number r) e (never_0 r)

pub done_passed : (n p : ℕ) (m : Mesh) (ds : List Check) → 0 ≡ mesh_refusal n p m → first (mesh_checks n p m ++ ds) ≡ first ds
done_passed n p m ds e = mesh-passed n p m ds 0 e (λ i. 0)

pub done_accepted : (n p : ℕ) (m : Mesh) → 0 ≡ mesh_refusal n p m → Accepted n p m
done_accepted n p m e = (numbered n p m).is_0.0 (sym e)

-- a call that was done: its mesh is accepted and none of the checks after the mesh's applies
pub mesh-accepted : (n p : ℕ) (m : Mesh) (ds : List Check) → T (lacks 0 ds) → first (mesh_checks n p m ++ ds) ≡ 0 → Accepted n p m × Clear ds
unfolding mesh_refusal mesh_checks
mesh-accepted n p m ds h e =
    let v = (none-applies (mesh_checks n p m ++ ds) h).0 e in
    let own = (none-applies (mesh_checks n p m) tt).1 (v.0, (v.1.0, (v.1.1.0, (v.1.1.1.0, (v.1.1.1.1.0, tt))))) in
    ((numbered n p m).is_0.0 own, v.1.1.1.1.1)
