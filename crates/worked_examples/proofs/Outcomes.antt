-- A call's value or zero, in the library's word: by cases.
use Rattle.std.proofs.Common.{◌≡◌, refl, Result, Ok, Err}
use Rattle.std.specs.Result.{result_unwrap_or}
use Rattle.refusal.specs.Outcome.{value_or}
use Rattle.refusal.specs.declared.Refusal.{Refusal}

pub unwrapped : {A : Type 0} (d : A) (o : Result A Refusal) → result_unwrap_or o d ≡ value_or d o
unwrapped d (Ok x) = refl
unwrapped d (Err r) = refl
