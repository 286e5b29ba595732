-- Where the lowest unused row may be looked for.
use Rattle.std.specs.Prelude.{ℕ, ◌+◌, ◌≤◌, ◌<◌, ◌≡◌, false, [], length, get_or}
use Rattle.rules.specs.Table.{Table, unused}

-- every row before the one that the link names is used; before none there is no row
abbrev pub UsedBefore : Table → ℕ → Type 0
UsedBefore t l = (k : ℕ) → k + 1 < l → unused (get_or t k []) ≡ false

-- the rows from i up to r are used
abbrev pub UsedRows : Table → ℕ → ℕ → Type 0
UsedRows t i r = (j : ℕ) → i ≤ j → j < r → unused (get_or t j []) ≡ false

-- from row i on, r is reached over such rows
abbrev pub UsedUpTo : Table → ℕ → ℕ → Type 0
UsedUpTo t i r = (i ≤ r) × ((r ≤ length t) × UsedRows t i r)
