-- Rule 5 of document 01 as the code goes about it: what the exterior asks of the vertices' lists is searched for before anything is changed.
-- A list is asked one thing, its first arc (or opposite) that will have no face once the interior is in. So an arc counts as held if it has a
-- face, or is one of those that will have one. And rule 5's exterior by what was found.
use Rattle.std.specs.Prelude.{ℕ, Bool, not, ◌||◌, cond, List, [], ◌∷◌, ◌++◌, map, length, get_or, eqb}
use Rattle.rules.specs.Table.{Table, cell, up_to, after, or_else, has}
use Rattle.rules.specs.Mesh.{Mesh, next, previous, face, leading, opposite, opposite_of}
use Rattle.rules.specs.Link.{connect, walk, turn_in}
use Rattle.rules.specs.Insert.{arc_at}

-- the arcs of a perimeter's pairs, none where one is missing
unfoldable pub arcs_on : Mesh → List ℕ → List ℕ
arcs_on m per = up_to (λ i l. l ++ (arc_at m per i ∷ [])) (length per) []

-- an arc is held that has a face, or that will have one soon
unfoldable pub held_in : Table → List ℕ → ℕ → Bool
held_in arcs soon x = not (eqb (cell arcs x 4) 0) || has soon x

-- the first of a list that is not held, or none
unfoldable pub first_free : (ℕ → Bool) → List ℕ → ℕ
first_free held [] = 0
first_free held (x ∷ xs) = let later = first_free held xs in cond (held x) later x

-- a vertex's list from its leading arc, of at most as many arcs as there are rows for them
unfoldable pub list_from : Table → Table → ℕ → List ℕ
list_from arcs edges x = walk (turn_in arcs edges) x (length arcs) x

-- the search of the list, and of its opposites
unfoldable pub out_from : Table → Table → List ℕ → ℕ → ℕ
out_from arcs edges soon x = first_free (held_in arcs soon) (list_from arcs edges x)

unfoldable pub back_from : Table → Table → List ℕ → ℕ → ℕ
back_from arcs edges soon x = first_free (held_in arcs soon) (map (opposite_of arcs edges) (list_from arcs edges x))

-- what was found for each vertex of a perimeter
pub record Sought : Type 0 where
  pub outs : List ℕ
  pub backs : List ℕ

unfoldable pub sought_for : Mesh → List ℕ → List ℕ → Sought
sought_for m soon per =
    record {
      outs = map (λ v. out_from m.arcs m.edges soon (leading m v)) per;
      backs = map (λ v. back_from m.arcs m.edges soon (leading m v)) per;
    }

-- the exterior of pair i, (a,b), if its opposite has no face. The opposite's next is what was found for a, or else the opposite of previous of
-- (a,b); its previous what was found for b, or else the opposite of next of (a,b)
unfoldable pub exterior_sought_at : List ℕ → Sought → ℕ → Mesh → Mesh
exterior_sought_at per s i m =
    let x = arc_at m per i in
    let o = opposite m x in
    let after-o = or_else (get_or s.outs i 0) (opposite m (previous m x)) in
    let before-o = or_else (get_or s.backs (after (length per) i) 0) (opposite m (next m x)) in
    cond (eqb (face m o) 0) (connect (connect m o after-o) before-o o) m

unfoldable pub exterior_sought : List ℕ → Sought → Mesh → Mesh
exterior_sought per s m = up_to (exterior_sought_at per s) (length per) m
