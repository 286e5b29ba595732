-- Rules 1 to 4 of document 01: vertices, links, walks, edges.
use Rattle.std.specs.Prelude.{ℕ, zero, suc, cond, List, [], ◌∷◌, map, eqb}
use Rattle.rules.specs.declared.Position.{Position}
use Rattle.rules.specs.declared.Vertex.{Vertex}
use Rattle.rules.specs.declared.Ended.{Ended}
use Rattle.rules.specs.declared.Ended.TheVariants.{Closed, Open, Cut}
use Rattle.rules.specs.declared.Walk.{Walk}
use Rattle.rules.specs.Table.{Table, cell, put, put_row, free_row, count, used}
use Rattle.rules.specs.Mesh.{Mesh, mesh, with_arcs, ring_limit, dest, next, leading, face_arc, opposite_of, opposite, key_at, find_arc, vertex_kind, edge_kind, next_key, one_up, counted, links_of}
use Rattle.rules.specs.Point.{row_of, position_at}

-- ---- rule 1: vertices

-- the vertex in a row, and the mesh with a vertex written into a row
unfoldable pub vertex_at : Mesh → ℕ → Vertex
vertex_at m v = record { key = key_at m.vertices v; position = position_at m.positions v; leading = leading m v }

unfoldable pub put_vertex : Mesh → ℕ → Vertex → Mesh
put_vertex m v x =
    mesh (put_row m.vertices v (one_up x.key ∷ x.leading ∷ [])) (put_row m.positions v (row_of x.position)) m.arcs m.edges m.faces m.counters

-- a new record takes the lowest unused row; insert gives no leading arc
abbrev pub free_vertex : Mesh → ℕ
free_vertex m = free_row m.vertices

unfoldable pub new_vertex : Mesh → Position → Mesh
new_vertex m p =
    let m₁ = put_vertex m (free_vertex m) (record { key = next_key m vertex_kind; position = p; leading = 0 }) in
    mesh m₁.vertices m₁.positions m₁.arcs m₁.edges m₁.faces (counted m.counters vertex_kind)

-- ---- rule 2: links

-- connecting two arcs sets next of the first and previous of the second
unfoldable pub connect : Mesh → ℕ → ℕ → Mesh
connect m x y = with_arcs m (put (put m.arcs x 2 y) y 3 x)

unfoldable pub set_face : Mesh → ℕ → ℕ → Mesh
set_face m x f = with_arcs m (put m.arcs x 4 f)

-- ---- rule 3: walks

-- from x by the step: it ends on return to the first, at a missing link, or when it is as long as its bound
unfoldable pub walk : (ℕ → ℕ) → ℕ → ℕ → ℕ → List ℕ
walk step first zero x = []
walk step first (suc bound) zero = []
walk step first (suc bound) (suc x) =
    let rest = walk step first bound (step (suc x)) in
    suc x ∷ cond (eqb (step (suc x)) first) [] rest

-- and how it ended
unfoldable pub walk_ended : (ℕ → ℕ) → ℕ → ℕ → ℕ → Ended
walk_ended step first zero zero = Open
walk_ended step first zero (suc x) = Cut
walk_ended step first (suc bound) zero = Open
walk_ended step first (suc bound) (suc x) =
    let later = walk_ended step first bound (step (suc x)) in
    cond (eqb (step (suc x)) first) Closed later

-- both, as the code holds them
unfoldable pub walk_of : (ℕ → ℕ) → ℕ → ℕ → Walk
walk_of step first bound = record { links = links_of (walk step first bound first); ended = walk_ended step first bound first }

-- a ring starts at the face's arc and follows next
unfoldable pub ring : Mesh → ℕ → List ℕ
ring m f = walk (next m) (face_arc m f) ring_limit (face_arc m f)

unfoldable pub ring_ended : Mesh → ℕ → Ended
ring_ended m f = walk_ended (next m) (face_arc m f) ring_limit (face_arc m f)

-- its vertices are the arcs' destinations in that order: the Rust decides, against rule 3 (docs/DIFFERENCES.md)
unfoldable pub ring_vertices : Mesh → ℕ → List ℕ
ring_vertices m f = map (dest m) (ring m f)

-- how many arcs the mesh has
unfoldable pub arc_count : Mesh → ℕ
arc_count m = count used m.arcs

-- after (a,x) in a vertex's outgoing list comes next of (x,a)
unfoldable pub turn_in : Table → Table → ℕ → ℕ
turn_in arcs edges x = cell arcs (opposite_of arcs edges x) 2

abbrev pub turn : Mesh → ℕ → ℕ
turn m x = turn_in m.arcs m.edges x

-- a vertex's outgoing list starts at its leading arc, and is at most as long as the mesh has arcs; the incoming list is its opposites
unfoldable pub outgoing : Mesh → ℕ → List ℕ
outgoing m v = walk (turn m) (leading m v) (arc_count m) (leading m v)

unfoldable pub outgoing_ended : Mesh → ℕ → Ended
outgoing_ended m v = walk_ended (turn m) (leading m v) (arc_count m) (leading m v)

unfoldable pub incoming : Mesh → ℕ → List ℕ
incoming m v = map (opposite m) (outgoing m v)

-- ---- rule 4: edges

-- a new arc in the lowest unused row; it becomes its source's leading arc
unfoldable pub new_arc : Mesh → ℕ → ℕ → ℕ → Mesh
new_arc m a b e =
    let x = free_row m.arcs in
    mesh (put m.vertices a 1 x) m.positions (put_row m.arcs x (a ∷ b ∷ 0 ∷ 0 ∷ 0 ∷ e ∷ [])) m.edges m.faces m.counters

-- (a,b) is made before (b,a), and a new edge names (a,b)
unfoldable pub new_edge : Mesh → ℕ → ℕ → Mesh
new_edge m a b =
    let e = free_row m.edges in
    let x = free_row m.arcs in
    let m₁ = new_arc m a b e in
    let y = free_row m₁.arcs in
    let m₂ = new_arc m₁ b a e in
    mesh m₂.vertices m₂.positions m₂.arcs (put_row m₂.edges e (one_up (next_key m edge_kind) ∷ x ∷ y ∷ [])) m₂.faces (counted m₂.counters edge_kind)

unfoldable pub get_or_insert_edge : Mesh → ℕ → ℕ → Mesh
get_or_insert_edge m a b = cond (eqb (find_arc m a b) 0) (new_edge m a b) m
