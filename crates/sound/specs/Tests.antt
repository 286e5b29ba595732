-- The test of one row for each clause of Sound, on the cells of the row as the code reads them, and all of them for a row of each table.
-- Where a clause asks something of used rows alone, an unused row passes. A row's own link comes last, where the clause asks for it.
use Rattle.std.specs.Prelude.{ℕ, ◌-◌, Bool, not, ◌&&◌, ◌||◌, List, get_or, eqb, ltb, Float}
use Rattle.rules.specs.Table.{Table, cell, there, used}
use Rattle.rules.specs.Point.{finite_row, zero_position_row}
use Rattle.rules.specs.Sound.{unless_none, zero_row}

-- ---- any row

-- unused, it is zero
unfoldable pub blank_row : List ℕ → Bool
blank_row r = used r || zero_row r

-- the key in a first cell lies below the counter
unfoldable pub key_test : ℕ → ℕ → Bool
key_test counter first = eqb first 0 || ltb (first - 1) counter

-- ---- edges and arcs

-- two arcs' rows hold the edge and have each other's ends swapped; two vertices differ and exist
unfoldable pub opposite_rows : List ℕ → List ℕ → ℕ → Bool
opposite_rows p q e =
    eqb (get_or p 5 0) e && (eqb (get_or q 5 0) e && (eqb (get_or p 0 0) (get_or q 1 0) && eqb (get_or p 1 0) (get_or q 0 0)))

unfoldable pub two_vertices : Table → ℕ → ℕ → Bool
two_vertices vertices a b = not (eqb a b) && (there vertices a && there vertices b)

unfoldable pub both_row : Table → List ℕ → ℕ → Bool
both_row arcs r e =
    let x = get_or r 1 0 in
    let y = get_or r 2 0 in
    not (used r)
    || (there arcs x
    && (there arcs y
    && (eqb (cell arcs x 5) e && (eqb (cell arcs y 5) e && (eqb (cell arcs x 0) (cell arcs y 1) && eqb (cell arcs x 1) (cell arcs y 0))))))

-- the ends of the arc that an edge names differ, and exist
unfoldable pub ends_row : Table → Table → List ℕ → Bool
ends_row vertices arcs r =
    let a = cell arcs (get_or r 1 0) 0 in
    let b = cell arcs (get_or r 1 0) 1 in
    not (used r) || (not (eqb a b) && (there vertices a && there vertices b))

-- ---- links

unfoldable pub leads_row : Table → List ℕ → ℕ → Bool
leads_row arcs r v = not (used r) || unless_none (get_or r 1 0) (there arcs (get_or r 1 0) && eqb (cell arcs (get_or r 1 0) 0) v)

unfoldable pub next_row : Table → List ℕ → Bool
next_row arcs r = not (used r) || unless_none (get_or r 2 0) (there arcs (get_or r 2 0) && eqb (cell arcs (get_or r 2 0) 0) (get_or r 1 0))

unfoldable pub previous_row : Table → List ℕ → Bool
previous_row arcs r = not (used r) || unless_none (get_or r 3 0) (there arcs (get_or r 3 0) && eqb (cell arcs (get_or r 3 0) 1) (get_or r 0 0))

-- both, of an arc without a face: what holds a face is on a ring, and tested there
unfoldable pub loose_row : Table → List ℕ → Bool
loose_row arcs r = not (eqb (get_or r 4 0) 0) || (next_row arcs r && previous_row arcs r)

-- ---- a row of each table

unfoldable pub vertex_test : Table → ℕ → List ℕ → ℕ → Bool
vertex_test arcs counter r v = blank_row r && (key_test counter (get_or r 0 0) && leads_row arcs r v)

unfoldable pub position_test : Table → List Float → ℕ → Bool
position_test vertices r v = (there vertices v || zero_position_row r) && finite_row r

unfoldable pub arc_test : Table → List ℕ → Bool
arc_test arcs r = blank_row r && loose_row arcs r

unfoldable pub edge_test : Table → Table → ℕ → List ℕ → ℕ → Bool
edge_test vertices arcs counter r e = blank_row r && (key_test counter (get_or r 0 0) && (both_row arcs r e && ends_row vertices arcs r))

unfoldable pub face_test : ℕ → List ℕ → Bool
face_test counter r = blank_row r && key_test counter (get_or r 0 0)
