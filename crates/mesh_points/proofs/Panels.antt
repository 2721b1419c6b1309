-- A column of C numbers a panel, panel after panel: number i·C + k is number k of panel i, so a panel's run of numbers takes the column from panel i to panel i + 1.
use mathlib.Core.Path.{◌≡◌, sym, ap, ◌∙◌}
use mathlib.Core.List.{List}
use Prim.Native.Nat.{ℕ, ◌+◌, ◌*◌, ◌/◌, ◌%◌, ◌<◌, ◌≤◌}
use native.Mathlib.Nat.{mul-add-div_right, mul-add-mod_self_right, mod-eq_of_lt, div-eq_of_lt, add-zero, suc-mul, mul-le-mul_right, zero-mul, le_of_eq, le_trans}
use native.Mathlib.Numerals.{add-one}
use native.Mathlib.Omega.{arith}
use lib.Ieee.{Float}
use lib.ListN.{length}
use Rattle.tri.specs.Mapping.{Tri}
use Rattle.lists.specs.Filling.{tabulate, filled, run}
use Rattle.lists.proofs.Filling.{fill_start, fill_length, run-run, column_end_lem}
use Rattle.mesh.specs.Mesh.{Mesh, triangle_nodes}

abbrev pub column : Mesh → (Tri → ℕ → Float) → ℕ → ℕ → Float
column m f C j = f (triangle_nodes m (j / C)) (j % C)

-- a column for p panels, held before the loop, now after i of them
pub record PanelsTo (m : Mesh) (f : Tri → ℕ → Float) (C p : ℕ) (held : List Float) (i : ℕ) (now : List Float) : Type 0 where
  pub long : length held ≡ p * C
  pub below : i ≤ p
  pub written : now ≡ filled held (p * C) (column m f C) (i * C)

number_at_lem : (m : Mesh) (f : Tri → ℕ → Float) (C i k : ℕ) → k < C → f (triangle_nodes m i) k ≡ column m f C (i * C + k)
number_at_lem m f C i k l =
    let some : 0 < C = omega arith in
    let none : k / C ≡ 0 = div-eq_of_lt l in
    let panel : (i * C + k) / C ≡ i = mul-add-div_right some i k ∙ ap (λ (x : ℕ). i + x) none ∙ add-zero i in
    let place : (i * C + k) % C ≡ k = mul-add-mod_self_right i C k ∙ mod-eq_of_lt l in
    rw (panel, place)

next_panel : (C p i : ℕ) → i < p → i * C + C ≤ p * C
next_panel C p i l = le_trans (le_of_eq (sym (suc-mul i C))) (mul-le-mul_right C l)

next_start : (C i : ℕ) → i * C + C ≡ (i + 1) * C
next_start C i = sym (suc-mul i C) ∙ ap (λ (x : ℕ). x * C) (sym (add-one i))

module _ {m : Mesh} {f : Tri → ℕ → Float} {C p : ℕ} {held : List Float} where
  pub panels_begun : length held ≡ p * C → PanelsTo m f C p held 0 held
  panels_begun e = record { long = e; below = omega arith; written = fill_start held (p * C) (column m f C) ∙ ap (filled held (p * C) (column m f C)) (sym (zero-mul C)) }

  pub panels-long : {i : ℕ} {now : List Float} → PanelsTo m f C p held i now → length now ≡ length held
  panels-long {i} r = ap length r.written ∙ fill_length held (p * C) (column m f C) (i * C) r.long (mul-le-mul_right C r.below)

  -- there is room for the next panel's numbers
  pub panel_room : {i : ℕ} {now : List Float} → PanelsTo m f C p held i now → i < p → i * C + C ≤ length now
  panel_room {i} r l = le_trans (next_panel C p i l) (le_of_eq (sym (panels-long r ∙ r.long)))

  -- panel i's numbers from index start, which is i·C
  pub panel_more : {i start : ℕ} {t : Tri} {now new : List Float} → PanelsTo m f C p held i now → i < p → start ≡ i * C → t ≡ triangle_nodes m i → new ≡ run now start C (f t) C → PanelsTo m f C p held (i + 1) new
  panel_more {i} {start} {t} {now} r l s e u =
      record {
        long = r.long;
        below = omega arith;
        written =
            u
            ∙ ap (λ (a : ℕ). run now a C (f t) C) s
            ∙ ap (λ (v : Tri). run now (i * C) C (f v) C) e
            ∙ ap (λ (q : List Float). run q (i * C) C (f (triangle_nodes m i)) C) r.written
            ∙ run-run held (p * C) (column m f C) (f (triangle_nodes m i)) (i * C) C (next_panel C p i l) (λ k h. number_at_lem m f C i k h)
            ∙ ap (filled held (p * C) (column m f C)) (next_start C i);
      }

  pub panels_end : {i : ℕ} {now : List Float} → PanelsTo m f C p held i now → i ≡ p → now ≡ tabulate (p * C) (column m f C)
  panels_end {i} {now} r z = column_end_lem held now (p * C) (column m f C) (i * C) r.long (ap (λ (x : ℕ). x * C) z) r.written
