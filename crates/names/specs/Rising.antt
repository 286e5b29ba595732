-- Names that rise from row to row.
use Rattle.std.specs.Prelude.{ℕ, zero, suc, Bool, ◌||◌, List, get_or, eqb, ltb}
use Rattle.rules.specs.Table.{or_else}

-- the last name before row i, or 0
unfoldable pub last_before : List ℕ → ℕ → ℕ
last_before names zero = 0
last_before names (suc i) = or_else (get_or names i 0) (last_before names i)

-- row i has no name, or one above the last before it
unfoldable pub rises : List ℕ → ℕ → Bool
rises names i = eqb (get_or names i 0) 0 || ltb (last_before names i) (get_or names i 0)
