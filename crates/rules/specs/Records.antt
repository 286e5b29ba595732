-- The records of a mesh: what its rows say once links are read as keys, in key order. Rows are not told apart here:
-- two meshes hold the same records exactly where these are equal.
use Rattle.std.specs.Prelude.{ℕ, ◌+◌, Bool, ◌&&◌, ◌||◌, cond, List, [], ◌∷◌, map, eqb, ltb}
use Rattle.rules.specs.declared.Position.{Position}
use Rattle.rules.specs.Table.{Table, there}
use Rattle.rules.specs.Mesh.{Mesh, source, dest, next, previous, face, edge, leading, edge_arc, face_arc, mark, key_at}
use Rattle.rules.specs.Point.{position_at}

-- ---- names: a list of keys, empty for none

-- an arc is named by its two vertex keys, a face or an edge by its key
unfoldable pub arc_name : Mesh → ℕ → List ℕ
arc_name m x = cond (eqb x 0) [] (key_at m.vertices (source m x) ∷ key_at m.vertices (dest m x) ∷ [])

unfoldable pub key_name : Table → ℕ → List ℕ
key_name t l = cond (eqb l 0) [] (key_at t l ∷ [])

-- ---- one record

-- vertex: key, position, leading arc or none
pub record VertexRecord : Type 0 where
  pub key : ℕ
  pub position : Position
  pub leading : List ℕ

-- arc: its name; next, previous, face, each possibly none; its edge
pub record ArcRecord : Type 0 where
  pub name : List ℕ
  pub next : List ℕ
  pub previous : List ℕ
  pub face : List ℕ
  pub edge : List ℕ

-- edge: key and one of its arcs
pub record EdgeRecord : Type 0 where
  pub key : ℕ
  pub arc : List ℕ

-- face: key, one arc, a mark
pub record FaceRecord : Type 0 where
  pub key : ℕ
  pub arc : List ℕ
  pub mark : ℕ

unfoldable pub vertex_record : Mesh → ℕ → VertexRecord
vertex_record m v =
    record { key = key_at m.vertices v; position = position_at m.positions v; leading = arc_name m (leading m v) }

unfoldable pub arc_record : Mesh → ℕ → ArcRecord
arc_record m x =
    record { name = arc_name m x; next = arc_name m (next m x); previous = arc_name m (previous m x); face = key_name m.faces (face m x); edge = key_name m.edges (edge m x) }

unfoldable pub edge_record : Mesh → ℕ → EdgeRecord
edge_record m e = record { key = key_at m.edges e; arc = arc_name m (edge_arc m e) }

unfoldable pub face_record : Mesh → ℕ → FaceRecord
face_record m f = record { key = key_at m.faces f; arc = arc_name m (face_arc m f); mark = mark m f }

-- ---- in key order

-- the links of the used rows, from the link l on
unfoldable pub used_from : Table → ℕ → List (List ℕ) → List ℕ
used_from t l [] = []
used_from t l (r ∷ rs) = let rest = used_from t (l + 1) rs in cond (there t l) (l ∷ rest) rest

-- an element put among those in order, and a list in order
unfoldable pub put_among : (ℕ → ℕ → Bool) → ℕ → List ℕ → List ℕ
put_among before x [] = x ∷ []
put_among before x (y ∷ ys) = let later = put_among before x ys in cond (before x y) (x ∷ y ∷ ys) (y ∷ later)

unfoldable pub in_order : (ℕ → ℕ → Bool) → List ℕ → List ℕ
unfolding put_among
in_order before [] = []
in_order before (x ∷ xs) = put_among before x (in_order before xs)

-- by key; arcs by source, then destination
unfoldable pub key_before : Table → ℕ → ℕ → Bool
key_before t x y = ltb (key_at t x) (key_at t y)

unfoldable pub arc_before : Mesh → ℕ → ℕ → Bool
arc_before m x y =
    key_before m.vertices (source m x) (source m y)
    || (eqb (key_at m.vertices (source m x)) (key_at m.vertices (source m y)) && key_before m.vertices (dest m x) (dest m y))

-- ---- all records, with the counters

pub record Records : Type 0 where
  pub vertices : List VertexRecord
  pub arcs : List ArcRecord
  pub edges : List EdgeRecord
  pub faces : List FaceRecord
  pub counters : List ℕ

unfoldable pub records : Mesh → Records
records m =
    record {
      vertices = map (vertex_record m) (in_order (key_before m.vertices) (used_from m.vertices 1 m.vertices));
      arcs = map (arc_record m) (in_order (arc_before m) (used_from m.arcs 1 m.arcs));
      edges = map (edge_record m) (in_order (key_before m.edges) (used_from m.edges 1 m.edges));
      faces = map (face_record m) (in_order (key_before m.faces) (used_from m.faces 1 m.faces));
      counters = m.counters;
    }
