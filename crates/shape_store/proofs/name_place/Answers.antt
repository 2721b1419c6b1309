-- A new name's bytes are put at its place and its mark is set; a held one leaves both lists as they are.
use mathlib.Core.Path.{◌≡◌}
use mathlib.Core.Bool.{true}
use mathlib.Core.List.{[]}
use borrow.Author.Rules.{rules}
use Rattle.shape_store.specs.Store.{Store, store_of, name_length, lacks_name}
use Rattle.shape_store.proofs.Calls.{put_paste}
use Rattle.shape_store.proofs.Found.{name-new}
use Rattle.shape_store.proofs.name_place.Goals as goal

pub returns-then-is_new : goal.returns-then-is_new
returns-then-is_new c =
    let a = c.args in
    let store : Store = store_of a.marks.now a.names.now [] [] [] in
    let new : lacks_name store a.name.now ≡ true = name-new store a.name.now _ c.find_name.ensures (search rules) in
    record { marks_value = rw new; names_value = rw new (put_paste name_length (search rules) c.put.ensures) }
