-- The name's own place if there is one, else the first free one, as the definition has it.
use mathlib.Core.Path.{sym, ◌∙◌}
use mathlib.Core.List.{[]}
use Rattle.shape_store.specs.Store.{store_of}
use Rattle.shape_store.proofs.Found.{name_lacked, free_found}
use Rattle.shape_store.proofs.place_for.Goals as goal

pub returns-in-None : goal.returns-in-None
returns-in-None c =
    let a = c.args in
    rw (name_lacked (store_of a.marks.now a.names.now [] [] []) a.name.now (sym c.find_name.ensures ∙ c.in-None.is)) (c.find_free.ensures ∙ free_found a.marks.now c.requires.0)
