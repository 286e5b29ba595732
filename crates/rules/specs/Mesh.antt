-- The tables of a mesh as one value, the names of their cells, the limits, and lookup by key.
use Rattle.std.specs.Prelude.{ℕ, ◌+◌, ◌-◌, Bool, ◌&&◌, cond, List, [], ◌++◌, length, get_or, set, take, replicate, Float, eqb}
use Rattle.rules.specs.declared.Links.{Links}
use Rattle.rules.specs.Table.{Table, cell, first_row, link_into, used}

-- vertices: key + 1, leading arc. positions: x, y, z of the vertex in the same row.
-- arcs: source, destination (vertices), next, previous (arcs), face, edge. edges: key + 1, the arc it names, that arc's opposite.
-- faces: key + 1, arc, mark. counters: the next key of a vertex, an edge, a face
pub record Mesh : Type 0 where
  pub vertices : Table
  pub positions : List (List Float)
  pub arcs : Table
  pub edges : Table
  pub faces : Table
  pub counters : List ℕ

abbrev pub mesh : Table → List (List Float) → Table → Table → Table → List ℕ → Mesh
mesh v p a e f k = record { vertices = v; positions = p; arcs = a; edges = e; faces = f; counters = k }

-- working room is a further set of tables
pub record Room : Type 0 where
  pub vertices : Table
  pub positions : List (List Float)
  pub arcs : Table
  pub edges : Table
  pub faces : Table

abbrev pub room : Table → List (List Float) → Table → Table → Table → Room
room v p a e f = record { vertices = v; positions = p; arcs = a; edges = e; faces = f }

abbrev pub with_arcs : Mesh → Table → Mesh
with_arcs m t = mesh m.vertices m.positions t m.edges m.faces m.counters

-- ---- limits

-- at most 4,096 vertices, 8,192 edges (two arcs each), 4,096 faces; a ring of at most 64 arcs, and as many keys
abbrev pub vertex_limit : ℕ
vertex_limit = 4096

abbrev pub edge_limit : ℕ
edge_limit = 8192

abbrev pub face_limit : ℕ
face_limit = 4096

abbrev pub ring_limit : ℕ
ring_limit = 64

-- as many keys as there are: the last is 4,294,967,294
abbrev pub key_limit : ℕ
key_limit = 4294967295

-- ---- what a row says, by its link

abbrev pub source : Mesh → ℕ → ℕ
source m x = cell m.arcs x 0

abbrev pub dest : Mesh → ℕ → ℕ
dest m x = cell m.arcs x 1

abbrev pub next : Mesh → ℕ → ℕ
next m x = cell m.arcs x 2

abbrev pub previous : Mesh → ℕ → ℕ
previous m x = cell m.arcs x 3

abbrev pub face : Mesh → ℕ → ℕ
face m x = cell m.arcs x 4

abbrev pub edge : Mesh → ℕ → ℕ
edge m x = cell m.arcs x 5

abbrev pub leading : Mesh → ℕ → ℕ
leading m v = cell m.vertices v 1

-- the arc that an edge names, and the other of its two
abbrev pub edge_arc : Mesh → ℕ → ℕ
edge_arc m e = cell m.edges e 1

abbrev pub edge_other : Mesh → ℕ → ℕ
edge_other m e = cell m.edges e 2

abbrev pub face_arc : Mesh → ℕ → ℕ
face_arc m f = cell m.faces f 1

abbrev pub mark : Mesh → ℕ → ℕ
mark m f = cell m.faces f 2

-- (b,a) of (a,b): the other arc of its edge
unfoldable pub opposite_of : Table → Table → ℕ → ℕ
opposite_of arcs edges x =
    let e = cell arcs x 5 in
    cond (eqb (cell edges e 1) x) (cell edges e 2) (cell edges e 1)

abbrev pub opposite : Mesh → ℕ → ℕ
opposite m x = opposite_of m.arcs m.edges x

-- ---- keys

-- the key in a used row of the vertices, edges or faces
abbrev pub key_of : List ℕ → ℕ
key_of r = get_or r 0 0 - 1

abbrev pub key_at : Table → ℕ → ℕ
key_at t l = cell t l 0 - 1

abbrev pub keyed : ℕ → List ℕ → Bool
keyed k r = used r && eqb (key_of r) k

-- the row with the key k: the likely row, which is row k while no record was removed, if it has that key; else the first row that has
unfoldable pub find_key : Table → ℕ → ℕ
find_key t k = link_into t (cond (keyed k (get_or t k [])) (k + 1) (first_row (keyed k) t))

abbrev pub find_vertex : Mesh → ℕ → ℕ
find_vertex m k = find_key m.vertices k

abbrev pub find_face : Mesh → ℕ → ℕ
find_face m k = find_key m.faces k

-- the arc from the vertex a to the vertex b, both by their links
abbrev pub joins : ℕ → ℕ → List ℕ → Bool
joins a b r = eqb (get_or r 0 0) a && eqb (get_or r 1 0) b

-- none leads from none
unfoldable pub arc_between : Table → ℕ → ℕ → ℕ
arc_between arcs a b = cond (eqb a 0) 0 (link_into arcs (first_row (joins a b) arcs))

abbrev pub find_arc : Mesh → ℕ → ℕ → ℕ
find_arc m a b = arc_between m.arcs a b

-- the next key of a kind, and the counters with that kind one up. A counter at its top has no key left and stays
abbrev pub vertex_kind : ℕ
vertex_kind = 0

abbrev pub edge_kind : ℕ
edge_kind = 1

abbrev pub face_kind : ℕ
face_kind = 2

abbrev pub next_key : Mesh → ℕ → ℕ
next_key m kind = get_or m.counters kind 0

unfoldable pub one_up : ℕ → ℕ
one_up k = cond (eqb k key_limit) k (k + 1)

abbrev pub counted : List ℕ → ℕ → List ℕ
counted k kind = set k kind (one_up (get_or k kind 0))

-- ---- lists of at most 64 links

-- the places of a list, 0 from its end on, and the list as the code holds it
unfoldable pub places_of : List ℕ → List ℕ
places_of l = take ring_limit (l ++ replicate ring_limit 0)

unfoldable pub links_of : List ℕ → Links
links_of l = record { at = places_of l; len = length l }

-- the list that the code holds
unfoldable pub list_of : Links → List ℕ
list_of l = take l.len l.at
