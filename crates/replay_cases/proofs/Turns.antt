-- The counts are those of some cases: of none at the start, and of one more or the same after a turn.
use Rattle.std.proofs.Common.{◌≡◌, ℕ, Bool, true, false, List, [], ◌∷◌, refl, ap, ◌∙◌}
use Rattle.replay_cases.specs.Tally.{none, counted, judged, Turn, cases_of, differ_of, Reached}

pub at_start : (agrees : ℕ → List ℕ → Bool) {cases differ : List ℕ} → (cases ≡ none) × (differ ≡ none) → Reached agrees cases differ
unfolding cases_of differ_of
at_start agrees e = ([], e.0, e.1)

turned : (agrees : ℕ → List ℕ → Bool) {cases differ cases' differ' : List ℕ} (r : Bool) → Turn agrees cases differ r cases' differ' → Reached agrees cases differ → Reached agrees cases' differ'
unfolding cases_of differ_of
turned agrees false t h = (h.0, (t.none refl).0 ∙ h.1, (t.none refl).1 ∙ h.2)
turned agrees true t h =
    let c = t.one refl in
    let k = c.0 in
    let b = c.1 in
    ((k, b) ∷ h.0, c.3 ∙ ap (λ l. counted l k) h.1, c.4 ∙ ap (λ l. judged (agrees k b) l k) h.2)

pub after_turn : (agrees : ℕ → List ℕ → Bool) {cases differ cases' differ' : List ℕ} {r : Bool} → Turn agrees cases differ r cases' differ' → Reached agrees cases differ → Reached agrees cases' differ'
after_turn agrees {cases} {differ} {cases'} {differ'} {r} t h = turned agrees r t h
