-- What an edit changes and what stays, as facts about rows: the words that the laws of this crate are stated in.
use Rattle.std.specs.Prelude.{ℕ, suc, ◌+◌, ◌-◌, ◌*◌, ◌≤◌, ◌<◌, ◌≡◌, List, [], ◌∷◌, ◌⊎◌, length, get_or}
use Rattle.rules.specs.Table.{Table, cell, put, unused, count}
use Rattle.rules.specs.Mesh.{Mesh, key_limit, vertex_kind, edge_kind, face_kind, next_key, one_up, source, dest, edge, leading, face_arc, edge_arc, edge_other, next, previous, face}
use Rattle.rules.specs.Point.{exponent_field}
use Rattle.std.specs.Float.{binary64}
use Rattle.std.specs.Float.Ieee.{to_bits}
use Rattle.rules.specs.Call.{Need}
use Rattle.proved.specs.Demand.{Holds}
use Rattle.proved.specs.Facts.{IsVertex, IsArc, IsEdge, IsFace, Sizes, KeysDiffer, KeysBelow, BothArcs, UnusedZero, coordinate}

-- the table n is t with the row r put into the link l, which was free: other rows stay, and one free row fewer is left
pub record Took (t n : Table) (l : ℕ) (r : List ℕ) : Type 0 where
  pub some : 1 ≤ l
  pub within : l ≤ length t
  pub was_free : cell t l 0 ≡ 0
  pub row : (c : ℕ) → cell n l c ≡ get_or r c 0
  pub others : (k c : ℕ) → (k ≡ l → ⊥) → cell n k c ≡ cell t k c
  pub rows : length n ≡ length t
  pub fewer : suc (count unused n) ≡ count unused t

-- a mesh has its three counters: in the code they are an array of three
abbrev pub ThreeCounters : Mesh → Type 0
ThreeCounters m = 3 ≤ length m.counters

-- the ring of the face f is the same in n as in m: its record names the same arc, the arcs that hold it keep their rows, and no other holds it
pub record RingStays (m n : Mesh) (f : ℕ) : Type 0 where
  pub first : face_arc n f ≡ face_arc m f
  pub rows : length n.arcs ≡ length m.arcs
  pub keeps : (x c : ℕ) → Holds m f x → cell n.arcs x c ≡ cell m.arcs x c
  pub no_more : (x : ℕ) → Holds n f x → Holds m f x

-- a need is met: free rows are not fewer, and no key above the limit is needed
pub record Met (m : Mesh) (n : Need) : Type 0 where
  pub vertex-rows : n.vertices ≤ count unused m.vertices
  pub edge-rows : n.edges ≤ count unused m.edges
  pub face-rows : n.faces ≤ count unused m.faces
  pub vertex-keys : next_key m vertex_kind + n.vertices ≤ key_limit
  pub edge-keys : next_key m edge_kind + n.edges ≤ key_limit
  pub face-keys : next_key m face_kind + n.face_keys ≤ key_limit

-- next of x set to y; previous of y set to x; and both: two arcs connected in a table
abbrev pub next_in : Table → ℕ → ℕ → Table
next_in t x y = put t x 2 y

abbrev pub previous_in : Table → ℕ → ℕ → Table
previous_in t x y = put t y 3 x

abbrev pub connect_in : Table → ℕ → ℕ → Table
connect_in t x y = previous_in (next_in t x y) x y

-- t is the arcs of m, each with its ends and its edge
pub record SameEnds (m : Mesh) (t : Table) : Type 0 where
  pub rows : length t ≡ length m.arcs
  pub source_stays : (x : ℕ) → cell t x 0 ≡ source m x
  pub dest-stays : (x : ℕ) → cell t x 1 ≡ dest m x
  pub edge_stays : (x : ℕ) → cell t x 5 ≡ edge m x

-- and linked anew: next leaves where the arc ends, previous arrives where it leaves, and free rows are zero
pub record Linked (m : Mesh) (t : Table) : Type 0 where
  pub ends : SameEnds m t
  pub next-leaves : (x : ℕ) → IsArc m x → (cell t x 2 ≡ 0 → ⊥) → IsArc m (cell t x 2) × (source m (cell t x 2) ≡ dest m x)
  pub previous-arrives : (x : ℕ) → IsArc m x → (cell t x 3 ≡ 0 → ⊥) → IsArc m (cell t x 3) × (dest m (cell t x 3) ≡ source m x)
  pub free-zero : (x c : ℕ) → (IsArc m x → ⊥) → cell t x c ≡ 0

-- what a new vertex needs: a free row and a key
pub record RoomForVertex (m : Mesh) : Type 0 where
  pub a-row : 1 ≤ count unused m.vertices
  pub a_key : next_key m vertex_kind + 1 ≤ key_limit

-- what a new edge from a to b needs: two vertices with no arc from one to the other, a free row, and a key
pub record RoomForEdge (m : Mesh) (a b : ℕ) : Type 0 where
  pub from-vertex : IsVertex m a
  pub to-vertex : IsVertex m b
  pub ends-differ : a ≡ b → ⊥
  pub no-arc : (x : ℕ) → IsArc m x → source m x ≡ a → dest m x ≡ b → ⊥
  pub a-row : 1 ≤ count unused m.edges
  pub a_key : next_key m edge_kind + 1 ≤ key_limit
  pub counters : ThreeCounters m

-- the rows of a new edge's arcs: from a to b, with no next, previous or face
abbrev pub arc_row : ℕ → ℕ → ℕ → List ℕ
arc_row a b e = a ∷ b ∷ 0 ∷ 0 ∷ 0 ∷ e ∷ []

-- a vertex's row has the cell of its leading arc: in the code every row has two cells
abbrev pub Leading : Mesh → ℕ → Type 0
Leading m v = 1 < length (get_or m.vertices (v - 1) [])

-- n is m with one edge more: in the free row e, with the arcs x from a to b and y from b to a in free rows; every other row of the arcs
-- and the edges stays; a and b keep all but their leading arc, which is the new arc that leaves them, unless their row has no cell for it;
-- every other vertex keeps its row; positions and faces stay
pub record MadeEdge (m n : Mesh) (a b x y e : ℕ) : Type 0 where
  pub edge_row : Took m.edges n.edges e (one_up (next_key m edge_kind) ∷ x ∷ y ∷ [])
  pub first-row : (c : ℕ) → cell n.arcs x c ≡ get_or (arc_row a b e) c 0
  pub second-row : (c : ℕ) → cell n.arcs y c ≡ get_or (arc_row b a e) c 0
  pub arcs-stay : (k c : ℕ) → (k ≡ x → ⊥) → (k ≡ y → ⊥) → cell n.arcs k c ≡ cell m.arcs k c
  pub first-free : cell m.arcs x 0 ≡ 0
  pub second-free : cell m.arcs y 0 ≡ 0
  pub arc-rows : length n.arcs ≡ length m.arcs
  pub arcs-fewer : count unused n.arcs + 2 ≡ count unused m.arcs
  pub vertex-rows : length n.vertices ≡ length m.vertices
  pub vertex-cells : (v c : ℕ) → (c ≡ 1 → ⊥) → cell n.vertices v c ≡ cell m.vertices v c
  pub leads : (v : ℕ) → (leading n v ≡ leading m v) ⊎ (((v ≡ a) × (leading n v ≡ x)) ⊎ ((v ≡ b) × (leading n v ≡ y)))
  pub leads-first : Leading m a → leading n a ≡ x
  pub leads-second : Leading m b → leading n b ≡ y
  pub other-vertices : (v c : ℕ) → (v ≡ a → ⊥) → (v ≡ b → ⊥) → cell n.vertices v c ≡ cell m.vertices v c
  pub positions-stay : n.positions ≡ m.positions
  pub faces-stay : n.faces ≡ m.faces
  pub vertex-counter : next_key n vertex_kind ≡ next_key m vertex_kind
  pub edge-counter : next_key n edge_kind ≡ suc (next_key m edge_kind)
  pub face-counter : next_key n face_kind ≡ next_key m face_kind
  pub counter-rows : length n.counters ≡ length m.counters

-- what a new face needs: a free row and a key
pub record RoomForFace (m : Mesh) : Type 0 where
  pub a-row : 1 ≤ count unused m.faces
  pub a_key : next_key m face_kind + 1 ≤ key_limit
  pub counters : ThreeCounters m

-- every clause of Sound but that on rings, and two free arcs for each free edge: what an edit in progress keeps of a sound mesh
pub record AllButRings (m : Mesh) : Type 0 where
  pub sizes : Sizes m
  pub vertex-keys-differ : KeysDiffer m.vertices
  pub edge-keys-differ : KeysDiffer m.edges
  pub face-keys-differ : KeysDiffer m.faces
  pub vertex-keys-below : KeysBelow m.vertices (next_key m vertex_kind)
  pub edge-keys-below : KeysBelow m.edges (next_key m edge_kind)
  pub face-keys-below : KeysBelow m.faces (next_key m face_kind)
  pub both-arcs : (e : ℕ) → IsEdge m e → BothArcs m e
  pub ends-differ : (x : ℕ) → IsArc m x → source m x ≡ dest m x → ⊥
  pub ends-exist : (x : ℕ) → IsArc m x → IsVertex m (source m x) × IsVertex m (dest m x)
  pub pairs-differ : (x y : ℕ) → IsArc m x → IsArc m y → source m x ≡ source m y → dest m x ≡ dest m y → x ≡ y
  pub edge-exists : (x : ℕ) → IsArc m x → IsEdge m (edge m x)
  pub edge-names : (x : ℕ) → IsArc m x → (edge_arc m (edge m x) ≡ x) ⊎ (edge_other m (edge m x) ≡ x)
  pub leads-out : (v : ℕ) → IsVertex m v → (leading m v ≡ 0 → ⊥) → IsArc m (leading m v) × (source m (leading m v) ≡ v)
  pub next-leaves : (x : ℕ) → IsArc m x → (next m x ≡ 0 → ⊥) → IsArc m (next m x) × (source m (next m x) ≡ dest m x)
  pub previous-arrives : (x : ℕ) → IsArc m x → (previous m x ≡ 0 → ⊥) → IsArc m (previous m x) × (dest m (previous m x) ≡ source m x)
  pub face-exists : (x : ℕ) → IsArc m x → (face m x ≡ 0 → ⊥) → IsFace m (face m x)
  pub vertices-zero : UnusedZero m.vertices
  pub arcs-zero : UnusedZero m.arcs
  pub edges-zero : UnusedZero m.edges
  pub faces-zero : UnusedZero m.faces
  pub positions-zero : (v c : ℕ) → 1 ≤ v → v ≤ length m.positions → (IsVertex m v → ⊥) → c < 3 → to_bits binary64 (coordinate m v c) ≡ 0
  pub all-finite : (v c : ℕ) → 1 ≤ v → v ≤ length m.positions → c < 3 → exponent_field (to_bits binary64 (coordinate m v c)) ≡ 2047 → ⊥
  pub two-free : 2 * count unused m.edges ≤ count unused m.arcs
