-- The number of a refusal in reading (request L3), and of what reading gives back: 0 where it is accepted.
use Rattle.std.specs.Prelude.{ℕ, Result, Ok, Err}
use Rattle.verdicts.specs.declared.refusals.ReadRefusal.{ReadRefusal}
use Rattle.verdicts.specs.declared.refusals.ReadRefusal.TheVariants.{Sizes, Length, Places, NoRoom, Unsound}

abbrev pub refusal_number : ReadRefusal → ℕ
refusal_number Sizes = 1
refusal_number Length = 10
refusal_number Places = 11
refusal_number NoRoom = 7
refusal_number Unsound = 12

abbrev pub number_of : {A : Type 0} → Result A ReadRefusal → ℕ
number_of (Ok a) = 0
number_of (Err r) = refusal_number r
