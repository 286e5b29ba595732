-- Rings near an edit, as tests: each listed arc is on its ring, and the ring of each new face returns.
use Rattle.std.specs.Prelude.{ℕ, zero, suc, ◌+◌, Bool, false, not, ◌&&◌, ◌||◌, List, [], length, get_or, eqb, leb}
use Rattle.rules.specs.Table.{Table, cell, there, every, all_below}

-- an arc in use that holds a face is followed and preceded by arcs that hold it
unfoldable pub ring_at : Table → ℕ → Bool
ring_at arcs x =
    not (there arcs x)
    || (eqb (cell arcs x 4) 0
    || (eqb (cell arcs (cell arcs x 2) 4) (cell arcs x 4) && eqb (cell arcs (cell arcs x 3) 4) (cell arcs x 4)))

-- an arc of the ring of g
unfoldable pub held_at : Table → ℕ → ℕ → Bool
held_at arcs g x = there arcs x && (eqb (cell arcs x 4) g && ring_at arcs x)

-- next from x returns to the first within so many arcs, each of them an arc of the ring of g
unfoldable pub walked_from : Table → ℕ → ℕ → ℕ → ℕ → Bool
walked_from arcs g first zero x = false
walked_from arcs g first (suc k) x = held_at arcs g x && (eqb (cell arcs x 2) first || walked_from arcs g first k (cell arcs x 2))

-- the ring of the face g, if its row has a key that was not yet given (the counter was `from`)
unfoldable pub new_ring : Table → ℕ → List ℕ → ℕ → Bool
new_ring arcs from row g = leb (get_or row 0 0) from || walked_from arcs g (get_or row 1 0) 64 (get_or row 1 0)

unfoldable pub new_rings : Table → Table → ℕ → Bool
new_rings arcs faces from = all_below (λ i. new_ring arcs from (get_or faces i []) (i + 1)) (length faces)

-- all of it
unfoldable pub rings_hold : Table → Table → List ℕ → ℕ → Bool
rings_hold arcs faces list from = every (ring_at arcs) list && new_rings arcs faces from
