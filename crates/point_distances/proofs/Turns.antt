-- A loop that fills an output from its front, one row of n numbers a turn: Filling's laws of a run, from index 0. What a whole run has at an index.
use mathlib.Core.Path.{◌≡◌, sym, ap, subst, ◌∙◌}
use mathlib.Core.List.{List, [], ◌∷◌, ◌++◌}
use Prim.Native.Nat.{ℕ, ◌+◌, ◌*◌, ◌%◌, ◌≤◌, ◌<◌, zero-le}
use native.Mathlib.Nat.{le_of_eq, zero-add, suc-mul, mul-le-mul, mul-le-mul_right}
use native.Mathlib.Numerals.{add-one}
use native.Mathlib.Omega.{arith}
use lib.Arith.{digits_mod, digits_div}
use lib.ListN.{take, drop}
use lib.Seq.{get_or-take, take-paste, ext_get_or}
use lib.Ieee.{Float, nan}
use Rattle.binary64.specs.Binary64.{at}
use Rattle.math.specs.Math.{sub3, norm3}
use Rattle.lists.specs.Filling.{tabulate, run}
use Rattle.lists.proofs.Filling.{tabulate-length, tabulate_at, run-run}
use Rattle.point_distances.specs.Distances.{point, difference, distance, vector}
use Rattle.point_distances.specs.declared.PointColumns.{PointColumns}
use Rattle.point_distances.specs.declared.Vectors.{Vectors}

-- row i of the first m
pub row_fits : (i n m : ℕ) → i < m → i * n + n ≤ m * n
row_fits i n m h = subst (λ (k : ℕ). k ≤ m * n) (suc-mul i n) (mul-le-mul_right n h)

rows_is : (i n : ℕ) → i * n + n ≡ (i + 1) * n
rows_is i n = sym (ap (λ (k : ℕ). k * n) (add-one i) ∙ suc-mul i n)

-- row i of n, where the first i rows are in place
pub row_next : (held now new : List Float) (n : ℕ) (g h : ℕ → Float) (i : ℕ) → i < n → now ≡ run held 0 (n * n) g (i * n) → new ≡ run now (i * n) n h n
    → ((j : ℕ) → j < n → h j ≡ g (i * n + j)) → new ≡ run held 0 (n * n) g ((i + 1) * n)
row_next held now new n g h i l w u all =
    u ∙ ap (λ (r : List Float). run r (i * n) n h n) w ∙ run-run held (n * n) g h (i * n) n (row_fits i n n l) all
    ∙ ap (run held 0 (n * n) g) (rows_is i n)

pub pairs_fit : (n : ℕ) → n ≤ 7 → n * n ≤ 49
pairs_fit n h = mul-le-mul h h

-- ---- what a whole run from the front has

pub front_at : (held d : List Float) (c : ℕ) (g : ℕ → Float) (k : ℕ) → d ≡ run held 0 c g c → k < c → at d k ≡ g k
front_at held d c g k e m =
    let all = tabulate c g in
    ap (λ (r : List Float). at r k) e ∙ sym (get_or-take (0 + c) (run held 0 c g c) k nan (subst (λ (j : ℕ). k < j) (sym (zero-add c)) m))
    ∙ ap (λ (r : List Float). at r k) (take-paste held 0 all c zero-le (le_of_eq (sym (tabulate-length c g))))
    ∙ get_or-take c all k nan m ∙ tabulate_at c g k m

pub front_same : (held : List Float) (c : ℕ) (g h : ℕ → Float) → ((k : ℕ) → k < c → g k ≡ h k) → run held 0 c g c ≡ run held 0 c h c
front_same held c g h e =
    ap (λ (r : List Float). take c r ++ drop (0 + c) held)
    (ext_get_or nan (tabulate c g) (tabulate c h) (tabulate-length c g ∙ sym (tabulate-length c h))
    (λ k m.
    let q : k < c = subst (λ (j : ℕ). k < j) (tabulate-length c g) m in
    tabulate_at c g k q ∙ e k q ∙ sym (tabulate_at c h k q)))

-- the distance of point i from point j, in the list of all
pub pair_at : (held d : List Float) (p q : PointColumns) (n i j : ℕ) → d ≡ run held 0 (n * n) (distance p q n) (n * n) → i < n → j < n
    → at d (i * n + j) ≡ norm3 (sub3 (point p i) (point q j))
unfolding distance
pair_at held d p q n i j e h m =
    let inside : i * n + j < n * n = omega (arith, row_fits i n n h) in
    front_at held d (n * n) (distance p q n) (i * n + j) e inside
    ∙ ap (λ (k : ℕ). norm3 (sub3 (point p k) (point q ((i * n + j) % n)))) (digits_div i m)
    ∙ ap (λ (k : ℕ). norm3 (sub3 (point p i) (point q k))) (digits_mod i m)

-- pair k's distance is the length of its differences
pub distance_is : (v : Vectors) (p q : PointColumns) (n k : ℕ) → at v.x k ≡ difference p.x.now q.x.now n k → at v.y k ≡ difference p.y.now q.y.now n k → at v.z k ≡ difference p.z.now q.z.now n k
    → norm3 (vector v k) ≡ distance p q n k
unfolding distance sub3
distance_is v p q n k e f g =
    ap (λ (r : Float). norm3 (r ∷ at v.y k ∷ at v.z k ∷ [])) e
    ∙ ap (λ (r : Float). norm3 (difference p.x.now q.x.now n k ∷ r ∷ at v.z k ∷ [])) f
    ∙ ap (λ (r : Float). norm3 (difference p.x.now q.x.now n k ∷ difference p.y.now q.y.now n k ∷ r ∷ [])) g
