-- "Sound means", phrase by phrase, as facts about rows, with no test in them. A vertex, an arc, an edge, a face is a used row of its
-- table, by its link.
use Rattle.std.specs.Prelude.{ℕ, ◌-◌, ◌*◌, ◌≤◌, ◌<◌, ◌≡◌, ◌⊎◌, [], length, get_or, T, Float}
use Rattle.std.specs.Float.{nan, binary64}
use Rattle.std.specs.Float.Ieee.{to_bits}
use Rattle.rules.specs.Table.{Table, cell, there}
use Rattle.rules.specs.Mesh.{Mesh, source, dest, next, previous, face, edge, leading, edge_arc, edge_other, face_arc, key_at, vertex_kind, edge_kind, face_kind, next_key}
use Rattle.rules.specs.Point.{exponent_field}
use Rattle.proved.specs.Demand.{Holds, holders, onward}

abbrev pub IsVertex : Mesh → ℕ → Type 0
IsVertex m v = T (there m.vertices v)

abbrev pub IsArc : Mesh → ℕ → Type 0
IsArc m x = T (there m.arcs x)

abbrev pub IsEdge : Mesh → ℕ → Type 0
IsEdge m e = T (there m.edges e)

abbrev pub IsFace : Mesh → ℕ → Type 0
IsFace m f = T (there m.faces f)

-- ---- sizes

-- at most 4,096 vertices with as many positions, 8,192 edges, 4,096 faces, and exactly two arc rows for each edge row
pub record Sizes (m : Mesh) : Type 0 where
  pub vertex-rows : length m.vertices ≤ 4096
  pub position-rows : length m.positions ≡ length m.vertices
  pub edge-rows : length m.edges ≤ 8192
  pub arc-rows : length m.arcs ≡ 2 * length m.edges
  pub face-rows : length m.faces ≤ 4096

-- ---- keys

-- no two rows in use have one key; the keys lie below a counter
abbrev pub KeysDiffer : Table → Type 0
KeysDiffer t = (l k : ℕ) → T (there t l) → T (there t k) → key_at t l ≡ key_at t k → l ≡ k

abbrev pub KeysBelow : Table → ℕ → Type 0
KeysBelow t counter = (l : ℕ) → T (there t l) → key_at t l < counter

-- ---- edges and arcs

-- the two arcs that an edge names are there, hold it, and are each other's ends swapped
pub record BothArcs (m : Mesh) (e : ℕ) : Type 0 where
  pub first-exists : IsArc m (edge_arc m e)
  pub second-exists : IsArc m (edge_other m e)
  pub first_holds : edge m (edge_arc m e) ≡ e
  pub second_holds : edge m (edge_other m e) ≡ e
  pub leaves-where-ends : source m (edge_arc m e) ≡ dest m (edge_other m e)
  pub ends-where-leaves : dest m (edge_arc m e) ≡ source m (edge_other m e)

-- the edge e joins the vertices a and b, either way round
abbrev pub Joins : Mesh → ℕ → ℕ → ℕ → Type 0
Joins m e a b =
    ((source m (edge_arc m e) ≡ a) × (dest m (edge_arc m e) ≡ b)) ⊎ ((source m (edge_arc m e) ≡ b) × (dest m (edge_arc m e) ≡ a))

-- ---- rings

-- a face's record names an arc; next from there returns after as many arcs as hold that face, 3 to 64, with distinct sources, which are
-- all the arcs that hold that face, and previous runs them backwards
pub record RingFacts (m : Mesh) (f : ℕ) : Type 0 where
  pub returns : onward m f (holders m f) ≡ face_arc m f
  pub not-before : (k : ℕ) → 1 ≤ k → k < holders m f → onward m f k ≡ face_arc m f → ⊥
  pub at-least-3 : 3 ≤ holders m f
  pub at-most-64 : holders m f ≤ 64
  pub sources-differ : (j k : ℕ) → j < holders m f → k < holders m f → source m (onward m f j) ≡ source m (onward m f k) → j ≡ k
  pub each_holds : (k : ℕ) → k < holders m f → Holds m f (onward m f k)
  pub each-met : (x : ℕ) → Holds m f x → (k : ℕ) × (k < holders m f) × (onward m f k ≡ x)
  pub runs-back : (k : ℕ) → k < holders m f → previous m (next m (onward m f k)) ≡ onward m f k

-- ---- rows

-- a row that is not in use has no cell but 0
abbrev pub UnusedZero : Table → Type 0
UnusedZero t = (l c : ℕ) → (T (there t l) → ⊥) → cell t l c ≡ 0

-- coordinate c of the position in a vertex's row
abbrev pub coordinate : Mesh → ℕ → ℕ → Float
coordinate m v c = get_or (get_or m.positions (v - 1) []) c nan

-- ---- all of them

pub record SoundFacts (m : Mesh) : Type 0 where
  pub sizes : Sizes m
  -- keys in a table differ
  pub vertex-keys-differ : KeysDiffer m.vertices
  pub edge-keys-differ : KeysDiffer m.edges
  pub face-keys-differ : KeysDiffer m.faces
  -- and lie below that kind's counter
  pub vertex-keys-below : KeysBelow m.vertices (next_key m vertex_kind)
  pub edge-keys-below : KeysBelow m.edges (next_key m edge_kind)
  pub face-keys-below : KeysBelow m.faces (next_key m face_kind)
  -- each edge has both arcs
  pub both-arcs : (e : ℕ) → IsEdge m e → BothArcs m e
  -- its ends differ
  pub ends-differ : (x : ℕ) → IsArc m x → source m x ≡ dest m x → ⊥
  -- and exist
  pub ends-exist : (x : ℕ) → IsArc m x → IsVertex m (source m x) × IsVertex m (dest m x)
  -- and no two edges join the same pair: no two arcs have the same ends (Edges.pairs-mean: given the others it is the same)
  pub pairs-differ : (x y : ℕ) → IsArc m x → IsArc m y → source m x ≡ source m y → dest m x ≡ dest m y → x ≡ y
  -- each arc's edge joins its ends: the arc is one of the two that its edge names
  pub edge-exists : (x : ℕ) → IsArc m x → IsEdge m (edge m x)
  pub edge-names : (x : ℕ) → IsArc m x → (edge_arc m (edge m x) ≡ x) ⊎ (edge_other m (edge m x) ≡ x)
  -- a leading arc, unless none, exists and leaves its vertex
  pub leads-out : (v : ℕ) → IsVertex m v → (leading m v ≡ 0 → ⊥) → IsArc m (leading m v) × (source m (leading m v) ≡ v)
  -- next of (a,b), unless none, exists and leaves b
  pub next-leaves : (x : ℕ) → IsArc m x → (next m x ≡ 0 → ⊥) → IsArc m (next m x) × (source m (next m x) ≡ dest m x)
  -- previous, unless none, exists and arrives at a
  pub previous-arrives : (x : ℕ) → IsArc m x → (previous m x ≡ 0 → ⊥) → IsArc m (previous m x) × (dest m (previous m x) ≡ source m x)
  -- an arc's face, unless none, exists
  pub face-exists : (x : ℕ) → IsArc m x → (face m x ≡ 0 → ⊥) → IsFace m (face m x)
  -- rings
  pub rings : (f : ℕ) → IsFace m f → RingFacts m f
  -- unused rows are zero, the position in an unused vertex's row too, by bits
  pub vertices-zero : UnusedZero m.vertices
  pub arcs-zero : UnusedZero m.arcs
  pub edges-zero : UnusedZero m.edges
  pub faces-zero : UnusedZero m.faces
  pub positions-zero : (v c : ℕ) → 1 ≤ v → v ≤ length m.positions → (IsVertex m v → ⊥) → c < 3 → to_bits binary64 (coordinate m v c) ≡ 0
  -- every coordinate is finite: its exponent field is not all ones
  pub all-finite : (v c : ℕ) → 1 ≤ v → v ≤ length m.positions → c < 3 → exponent_field (to_bits binary64 (coordinate m v c)) ≡ 2047 → ⊥
