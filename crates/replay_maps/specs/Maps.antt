-- The replay: what a case of a matrix or a map compares: the matrix or map, then the vectors, each as its length and its numbers. Definitions only.
use Rattle.std.specs.Prelude.{Bool, false, cond, ◌&&◌, List, ℕ, ◌+◌, ◌*◌, eqb, get_or, length, Float}
use Rattle.refusal.specs.Checks.{after}
use Rattle.linkage.specs.Answer.{value_after}
use Rattle.linkage.specs.Energy as Energy
use Rattle.linkage.specs.Flux as Flux
use Rattle.linkage.specs.Row as Row
use Rattle.replay_words.specs.Buffers.{lent, held}
use Rattle.replay_words.specs.Words.{length_at, size_at, part, same_place, same_word, same_value}

-- a matrix and one vector of nodal values; a matrix and two; a map, nodal values and coefficients
abbrev pub energy1 : List Float → List ℕ → Bool
energy1 f w =
    let n = length_at w 0 in
    let m = length_at w (n + 1) in
    let matrix = part f 1 (n + 1) in
    let s = part f (n + 2) (n + 2 + m) in
    let r = Energy.energy_refusal (length s) (length matrix) in
    same_value r (value_after r (Energy.inductive_energy matrix s)) w (n + m + 2)

abbrev pub energy2 : List Float → List ℕ → Bool
energy2 f w =
    let n = length_at w 0 in
    let m = length_at w (n + 1) in
    let p = length_at w (n + 2 + m) in
    let matrix = part f 1 (n + 1) in
    let s = part f (n + 2) (n + 2 + m) in
    let t = part f (n + m + 3) (n + m + 3 + p) in
    let r = Energy.vectors_refusal (length s) (length t) (length matrix) in
    same_value r (value_after r (Energy.from_potential_vectors matrix s t)) w (n + m + 3 + p)

abbrev pub interaction : List Float → List ℕ → Bool
interaction f w =
    let n = length_at w 0 in
    let m = length_at w (n + 1) in
    let p = length_at w (n + 2 + m) in
    let map = part f 1 (n + 1) in
    let values = part f (n + 2) (n + 2 + m) in
    let coefficients = part f (n + m + 3) (n + m + 3 + p) in
    let r = Flux.map_refusal (length map) (length coefficients) (length values) in
    same_value r (value_after r (Flux.interaction_energy map values coefficients)) w (n + m + 3 + p)

-- the flux linkage, with the buffer that is lent
abbrev pub flux_into : List Float → List Float → List Float → List ℕ → ℕ → Bool
flux_into map cs out w k =
    let r = Flux.map_refusal (length map) (length cs) (length out) in
    same_word r w k && held r (after r (Flux.flux_linkage map cs (length out)) out) w (k + 1)

abbrev pub flux : List Float → List ℕ → Bool
flux f w =
    let n = length_at w 0 in
    let m = length_at w (n + 1) in
    let p = length_at w (n + 2 + m) in
    flux_into (part f 1 (n + 1)) (part f (n + 2) (n + 2 + m)) (lent 64 p) w (n + m + 3)

-- the row of a node in a matrix, and in a map, of so many numbers
abbrev pub row_matrix : List Float → List ℕ → Bool
row_matrix f w =
    let n = get_or w 1 0 in
    let r = Row.matrix_row_refusal (length (part f 0 (size_at w 0))) n (get_or w 2 0) in
    same_place r (cond (eqb r 0) (get_or w 2 0 * n) 0) (cond (eqb r 0) n 0) w 3

abbrev pub row_map : List Float → List ℕ → Bool
row_map f w =
    let n = get_or w 1 0 in
    let r = Row.map_row_refusal (length (part f 0 (size_at w 0))) n (get_or w 2 0) in
    same_place r (cond (eqb r 0) (get_or w 2 0 * n) 0) (cond (eqb r 0) n 0) w 3

-- ---- by the kind's number

unfoldable pub maps_agree : ℕ → List Float → List ℕ → Bool
maps_agree kind f w =
    cond (eqb kind 26) (energy2 f w)
    (cond (eqb kind 27) (energy1 f w)
    (cond (eqb kind 28) (flux f w)
    (cond (eqb kind 29) (interaction f w) false)))

unfoldable pub rows_agree : ℕ → List Float → List ℕ → Bool
rows_agree kind f w = cond (eqb kind 31) (row_matrix f w) (cond (eqb kind 32) (row_map f w) false)
