-- What the slots tell of a part of the names.
use Rattle.std.specs.Prelude.{ℕ, ◌≡◌, false, List}
use Rattle.names.specs.declared.Verdict.{Verdict}
use Rattle.names.specs.declared.Verdict.TheVariants.{Apart, Twice, Untold}
use Rattle.names.specs.Names.{differ}
use Rattle.names.specs.Slots.{DifferIn}

-- of the first n rows: the names of the part differ, or some name stands twice, or neither is told
abbrev pub Shows : List ℕ → ℕ → ℕ → Verdict → Type 0
Shows names n part Apart = DifferIn names n part
Shows names n part Twice = false ≡ differ names n
Shows names n part Untold = Unit {0}
