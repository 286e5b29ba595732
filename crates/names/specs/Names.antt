-- A list of names, 0 for none: a name is a table's first cell, its key plus one, or the pair that an edge joins.
use Rattle.std.specs.Prelude.{ℕ, ◌+◌, ◌*◌, ◌%◌, min, max, Bool, not, ◌||◌, List, get_or, eqb}
use Rattle.rules.specs.Table.{all_below}

-- row i has no name, or no row before it has the same
unfoldable pub alone : List ℕ → ℕ → Bool
alone names i = eqb (get_or names i 0) 0 || all_below (λ j. not (eqb (get_or names j 0) (get_or names i 0))) i

-- no two of the first n rows have one name
unfoldable pub differ : List ℕ → ℕ → Bool
differ names n = all_below (alone names) n

-- a pair of vertices, of which there are less than 8,192, as one number: the lesser first
unfoldable pub pair_name : ℕ → ℕ → ℕ
pair_name a b = min a b % 8192 * 8192 + max a b % 8192
