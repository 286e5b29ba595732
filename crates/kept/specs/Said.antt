-- Rule 4 once more, as the laws of this crate read it; and the edges of a face insert up to a pair. Proved to be the definitions in `rules`
-- (proofs/Edge, proofs/EdgesIn), so that a wrong variant of a rule can be tried here as a must-fail edit.
use Rattle.std.specs.Prelude.{ℕ, List, [], ◌∷◌, length, get_or}
use Rattle.rules.specs.Table.{put, put_row, free_row, up_to, after}
use Rattle.rules.specs.Mesh.{Mesh, mesh, edge_kind, next_key, one_up, counted}
use Rattle.rules.specs.Link.{get_or_insert_edge}
use Rattle.kept.specs.Frame.{arc_row}

-- a new arc from a to b, of the edge e
unfoldable pub arc_said : Mesh → ℕ → ℕ → ℕ → Mesh
arc_said m a b e =
    let x = free_row m.arcs in
    mesh (put m.vertices a 1 x) m.positions (put_row m.arcs x (arc_row a b e)) m.edges m.faces m.counters

-- a new edge between a and b
unfoldable pub edge_said : Mesh → ℕ → ℕ → Mesh
edge_said m a b =
    let e = free_row m.edges in
    let forth = arc_said m a b e in
    let both = arc_said forth b a e in
    let row = one_up (next_key m edge_kind) ∷ free_row m.arcs ∷ free_row forth.arcs ∷ [] in
    mesh both.vertices both.positions both.arcs (put_row m.edges e row) both.faces (counted m.counters edge_kind)

-- the mesh with the edges of the first k pairs of the perimeter
unfoldable pub edges_up_to : List ℕ → ℕ → Mesh → Mesh
edges_up_to per k m = up_to (λ i a. get_or_insert_edge a (get_or per i 0) (get_or per (after (length per) i) 0)) k m
