-- What names a row: its key, or the pair of vertices that it joins. No two rows of a table have one name.
use Rattle.std.specs.Prelude.{ℕ, Bool, cond, List, map, length, get_or}
use Rattle.rules.specs.Table.{Table, cell, unused, all_below}
use Rattle.names.specs.Names.{pair_name}
use Rattle.names.specs.Rising.{rises}

-- the first cells: keys plus one, and 0 in unused rows
abbrev pub firsts : Table → List ℕ
firsts t = map (λ r. get_or r 0 0) t

-- the keys rise from row to row
unfoldable pub keys_rise : Table → Bool
keys_rise t = all_below (rises (firsts t)) (length t)

-- an edge by the ends of the arc that it names
unfoldable pub edge_name : Table → List ℕ → ℕ
edge_name arcs r = cond (unused r) 0 (pair_name (cell arcs (get_or r 1 0) 0) (cell arcs (get_or r 1 0) 1))
