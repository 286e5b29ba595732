-- What an accepted face insert reaches and what it cannot: statements over the mesh before and after.
use Rattle.std.specs.Prelude.{ℕ, suc, ◌+◌, ◌*◌, ◌<◌, ◌≡◌, List, ◌⊎◌, length, T, not}
use Rattle.rules.specs.Table.{cell, after, has, count, unused}
use Rattle.rules.specs.Mesh.{Mesh, source, dest, next, previous, face, edge, face_arc, mark, key_at, find_vertex, vertex_kind, edge_kind, face_kind, next_key}
use Rattle.rules.specs.Point.{position_at, same_place}
use Rattle.rules.specs.Insert.{arc_at}
use Rattle.rules.specs.Call.{pairs_without}
use Rattle.proved.specs.Demand.{Holds}
use Rattle.proved.specs.Facts.{IsVertex, IsArc, IsEdge}
use Rattle.kept.specs.Perimeter.{corner, following, Pair}

-- no arc in use has one of the keys' vertices as an end
pub record NoArcAt (m : Mesh) (keys : List ℕ) : Type 0 where
  pub none-leaves : (x k : ℕ) → IsArc m x → T (has keys k) → source m x ≡ find_vertex m k → ⊥
  pub none-arrives : (x k : ℕ) → IsArc m x → T (has keys k) → dest m x ≡ find_vertex m k → ⊥

-- r is m after a face with the mark was put on the perimeter, into the row f of the faces
pub record InsertReaches (m r : Mesh) (per : List ℕ) (f mark' : ℕ) : Type 0 where
  -- the perimeter's arcs hold the new face and are linked in a ring
  pub arcs-on : (i : ℕ) → i < length per → IsArc r (arc_at r per i)
  pub leaves-on : (i : ℕ) → i < length per → source r (arc_at r per i) ≡ corner per i
  pub arrives-on : (i : ℕ) → i < length per → dest r (arc_at r per i) ≡ following per i
  pub holds_on : (i : ℕ) → i < length per → face r (arc_at r per i) ≡ f
  pub next-on : (i : ℕ) → i < length per → next r (arc_at r per i) ≡ arc_at r per (after (length per) i)
  pub previous-on : (i : ℕ) → i < length per → previous r (arc_at r per (after (length per) i)) ≡ arc_at r per i
  -- its record was free, and has the next key, the first arc and the mark
  pub was_free : cell m.faces f 0 ≡ 0
  pub has_key : cell r.faces f 0 ≡ suc (next_key m face_kind)
  pub has-arc : face_arc r f ≡ arc_at r per 0
  pub has-mark : mark r f ≡ mark'
  -- every arc that was there keeps its ends and its edge, and its face unless it is on the perimeter
  pub arcs-stay : (x : ℕ) → IsArc m x → IsArc r x
  pub sources-stay : (x : ℕ) → IsArc m x → source r x ≡ source m x
  pub dests-stay : (x : ℕ) → IsArc m x → dest r x ≡ dest m x
  pub edge_stays : (x : ℕ) → IsArc m x → edge r x ≡ edge m x
  pub faces-stay : (x : ℕ) → IsArc m x → ((i : ℕ) → i < length per → x ≡ arc_at r per i → ⊥) → face r x ≡ face m x
  -- no next or previous changes on an arc of another face
  pub next-stays : (x : ℕ) → IsArc m x → (face m x ≡ 0 → ⊥) → next r x ≡ next m x
  pub previous-stays : (x : ℕ) → IsArc m x → (face m x ≡ 0 → ⊥) → previous r x ≡ previous m x
  -- each further arc joins a pair of the perimeter
  pub arcs-new : (x : ℕ) → IsArc r x → (IsArc m x → ⊥) → Pair per (source r x) (dest r x)
  -- vertices outside the perimeter keep their whole record, and those on it all but the leading arc; positions, edges and other faces stay
  pub vertices-stay : (v c : ℕ) → (T (has per v) → ⊥) → cell r.vertices v c ≡ cell m.vertices v c
  pub vertex-cells : (v c : ℕ) → (c ≡ 1 → ⊥) → cell r.vertices v c ≡ cell m.vertices v c
  pub positions-stay : r.positions ≡ m.positions
  pub edges-stay : (e c : ℕ) → IsEdge m e → cell r.edges e c ≡ cell m.edges e c
  pub other-faces : (g c : ℕ) → (g ≡ f → ⊥) → cell r.faces g c ≡ cell m.faces g c

-- how many rows and keys it takes: an edge and two arcs for each pair without an arc, and one face
pub record InsertMakes (m r : Mesh) (per : List ℕ) : Type 0 where
  pub edges-made : count unused r.edges + pairs_without m per ≡ count unused m.edges
  pub arcs-made : count unused r.arcs + 2 * pairs_without m per ≡ count unused m.arcs
  pub faces-made : count unused r.faces + 1 ≡ count unused m.faces
  pub no-vertices : count unused r.vertices ≡ count unused m.vertices
  pub edge-keys : next_key r edge_kind ≡ next_key m edge_kind + pairs_without m per
  pub face-keys : next_key r face_kind ≡ next_key m face_kind + 1
  pub vertex-keys : next_key r vertex_kind ≡ next_key m vertex_kind

-- the face g is spared by an edit from m to n, in mid-edit too: it keeps its record, the same arcs hold it, and next and previous of these stay
-- unless they lead to an arc that does not hold it, which no sound ring has
pub record Spared (m n : Mesh) (g : ℕ) : Type 0 where
  pub record-stays : (c : ℕ) → cell n.faces g c ≡ cell m.faces g c
  pub still-hold : (x : ℕ) → Holds m g x → Holds n g x
  pub no_more : (x : ℕ) → Holds n g x → Holds m g x
  pub next-or : (x : ℕ) → Holds m g x → (next n x ≡ next m x) ⊎ (Holds n g (next n x) → ⊥)
  pub previous-or : (x : ℕ) → Holds m g x → (previous n x ≡ previous m x) ⊎ (Holds n g (previous n x) → ⊥)

-- every arc of m is an arc of n with the same ends, every vertex a vertex at the same place, and there are as many rows of arcs and counters
pub record KeepsEnds (m n : Mesh) : Type 0 where
  pub arcs : (x : ℕ) → IsArc m x → IsArc n x
  pub sources : (x : ℕ) → IsArc m x → source n x ≡ source m x
  pub dests : (x : ℕ) → IsArc m x → dest n x ≡ dest m x
  pub vertices : (v : ℕ) → IsVertex m v → IsVertex n v
  pub places : (v : ℕ) → IsVertex m v → position_at n.positions v ≡ position_at m.positions v
  pub arc-rows : length n.arcs ≡ length m.arcs
  pub counter-rows : length n.counters ≡ length m.counters

-- a vertex of m is there in n, with its key and its position; its leading arc may be another
pub record KeepsKeyAndPosition (m n : Mesh) (v : ℕ) : Type 0 where
  pub exists : IsVertex n v
  pub same_key : key_at n.vertices v ≡ key_at m.vertices v
  pub same-position : position_at n.positions v ≡ position_at m.positions v

-- the ends of an arc are vertices apart: not at equal positions
pub record Apart (m : Mesh) (x : ℕ) : Type 0 where
  pub from-vertex : IsVertex m (source m x)
  pub to-vertex : IsVertex m (dest m x)
  pub two-spots : T (not (same_place (position_at m.positions (source m x)) (position_at m.positions (dest m x))))

-- the face g has in n the record it has in m, and the same ring, arc for arc
pub record SameRing (m n : Mesh) (g : ℕ) : Type 0 where
  pub record-stays : (c : ℕ) → cell n.faces g c ≡ cell m.faces g c
  pub still-hold : (x : ℕ) → Holds m g x → Holds n g x
  pub no_more : (x : ℕ) → Holds n g x → Holds m g x
  pub next-stays : (x : ℕ) → Holds m g x → next n x ≡ next m x
  pub previous-stays : (x : ℕ) → Holds m g x → previous n x ≡ previous m x
