-- A perimeter that the checks of a face insert let pass, what its edges add to a mesh, and what the interior and the exterior make of the arcs.
use Rattle.std.specs.Prelude.{ℕ, ◌≤◌, ◌<◌, ◌≡◌, List, [], map, cond, ◌⊎◌, length, get_or, T, eqb}
use Rattle.rules.specs.Table.{Table, cell, after, has, or_else}
use Rattle.rules.specs.Mesh.{Mesh, source, dest, next, previous, face, opposite, vertex_kind, face_kind, next_key}
use Rattle.rules.specs.Insert.{arc_at, faceless_in}
use Rattle.proved.specs.Facts.{IsVertex, IsArc, IsEdge}
use Rattle.kept.specs.Frame.{next_in, previous_in, SameEnds, Linked}

-- three vertices or more that are there and differ, at most 64
pub record Perimeter (m : Mesh) (per : List ℕ) : Type 0 where
  pub at-least-3 : 3 ≤ length per
  pub at-most-64 : length per ≤ 64
  pub vertices : (i : ℕ) → i < length per → IsVertex m (get_or per i 0)
  pub differ : (i j : ℕ) → i < length per → j < length per → get_or per i 0 ≡ get_or per j 0 → i ≡ j

-- vertex i of a perimeter, and the one after it
abbrev pub corner : List ℕ → ℕ → ℕ
corner per i = get_or per i 0

abbrev pub following : List ℕ → ℕ → ℕ
following per i = get_or per (after (length per) i) 0

-- s and d are the ends of a pair of the perimeter, either way round
pub record Pair (per : List ℕ) (s d : ℕ) : Type 0 where
  pub place : ℕ
  pub on : place < length per
  pub ends : ((s ≡ corner per place) × (d ≡ following per place)) ⊎ ((s ≡ following per place) × (d ≡ corner per place))

-- a new arc joins a pair of the perimeter, and has no next, no previous and no face
pub record Blank (m : Mesh) (x : ℕ) : Type 0 where
  pub no-next : next m x ≡ 0
  pub no-previous : previous m x ≡ 0
  pub no-face : face m x ≡ 0

pub record NewArc (per : List ℕ) (m : Mesh) (x : ℕ) : Type 0 where
  pub blank : Blank m x
  pub pair : Pair per (source m x) (dest m x)

-- n is m with edges of the perimeter added: every arc and every edge that was there keeps its row; each further arc is new; a vertex keeps
-- all but its leading arc, and its whole row if it is not on the perimeter; positions, faces and the other counters stay
pub record Grown (per : List ℕ) (m n : Mesh) : Type 0 where
  pub arc-rows : length n.arcs ≡ length m.arcs
  pub arcs-stay : (x c : ℕ) → IsArc m x → cell n.arcs x c ≡ cell m.arcs x c
  pub arcs-new : (x : ℕ) → IsArc n x → (IsArc m x → ⊥) → NewArc per n x
  pub edges-stay : (e c : ℕ) → IsEdge m e → cell n.edges e c ≡ cell m.edges e c
  pub vertex-rows : length n.vertices ≡ length m.vertices
  pub vertex-cells : (v c : ℕ) → (c ≡ 1 → ⊥) → cell n.vertices v c ≡ cell m.vertices v c
  pub vertices-stay : (v c : ℕ) → (T (has per v) → ⊥) → cell n.vertices v c ≡ cell m.vertices v c
  pub positions-stay : n.positions ≡ m.positions
  pub faces-stay : n.faces ≡ m.faces
  pub vertex-counter : next_key n vertex_kind ≡ next_key m vertex_kind
  pub face-counter : next_key n face_kind ≡ next_key m face_kind
  pub counter-rows : length n.counters ≡ length m.counters

-- t is the arcs of m with the perimeter's interior in: its arcs are linked in a ring and hold f, and every other row stays
pub record Inside (m : Mesh) (per : List ℕ) (f : ℕ) (t : Table) : Type 0 where
  pub linked : Linked m t
  pub next-on : (i : ℕ) → i < length per → cell t (arc_at m per i) 2 ≡ arc_at m per (after (length per) i)
  pub previous-on : (i : ℕ) → i < length per → cell t (arc_at m per (after (length per) i)) 3 ≡ arc_at m per i
  pub face-on : (i : ℕ) → i < length per → cell t (arc_at m per i) 4 ≡ f
  pub others-stay : (y c : ℕ) → ((i : ℕ) → i < length per → y ≡ arc_at m per i → ⊥) → cell t y c ≡ cell m.arcs y c

-- ---- the exterior, on one table: m has the arcs' ends and edges, t is the arcs as they are now

-- the opposite of a pair's arc
abbrev pub outer : Mesh → List ℕ → ℕ → ℕ
outer m per i = opposite m (arc_at m per i)

-- what comes to follow it, and what comes to precede it
unfoldable pub after_outer : Mesh → List ℕ → List (List ℕ) → ℕ → Table → ℕ
after_outer m per lists i t = or_else (faceless_in t (get_or lists i [])) (opposite m (cell t (arc_at m per i) 3))

unfoldable pub before_outer : Mesh → List ℕ → List (List ℕ) → ℕ → Table → ℕ
before_outer m per lists i t =
    or_else (faceless_in t (map (opposite m) (get_or lists (after (length per) i) []))) (opposite m (cell t (arc_at m per i) 2))

-- two arcs of the border connected
abbrev pub border_in : Table → ℕ → ℕ → Table
border_in t x y = previous_in (next_in t x y) x y

-- the arcs after the exterior of pair i
unfoldable pub turned : Mesh → List ℕ → List (List ℕ) → ℕ → Table → Table
turned m per lists i t =
    let o = outer m per i in
    cond (eqb (cell t o 4) 0) (border_in (border_in t o (after_outer m per lists i t)) (before_outer m per lists i t) o) t

-- t is the arcs of m after the whole insert: the perimeter's arcs are linked in a ring and hold f; every arc keeps its ends and its edge, and
-- all that are not on the perimeter keep their face
pub record Inserted (m : Mesh) (per : List ℕ) (f : ℕ) (t : Table) : Type 0 where
  pub ends : SameEnds m t
  pub next-on : (i : ℕ) → i < length per → cell t (arc_at m per i) 2 ≡ arc_at m per (after (length per) i)
  pub previous-on : (i : ℕ) → i < length per → cell t (arc_at m per (after (length per) i)) 3 ≡ arc_at m per i
  pub face-on : (i : ℕ) → i < length per → cell t (arc_at m per i) 4 ≡ f
  pub faces-stay : (y : ℕ) → ((i : ℕ) → i < length per → y ≡ arc_at m per i → ⊥) → cell t y 4 ≡ face m y

-- t is t₀ with other next and previous, and with neither on the perimeter's arcs
pub record Outside (m : Mesh) (per : List ℕ) (t₀ t : Table) : Type 0 where
  pub ends : SameEnds m t
  pub cells_stay : (y c : ℕ) → (c ≡ 2 → ⊥) → (c ≡ 3 → ⊥) → cell t y c ≡ cell t₀ y c
  pub ring-stays : (k c : ℕ) → k < length per → cell t (arc_at m per k) c ≡ cell t₀ (arc_at m per k) c

-- no arc in use leaves a vertex of the perimeter; so in a sound mesh, where each arc has its opposite, none arrives there
abbrev pub Fresh : Mesh → List ℕ → Type 0
Fresh m per = (x i : ℕ) → IsArc m x → i < length per → source m x ≡ corner per i → ⊥

-- the border of a fresh face: the opposites of its arcs, linked in a ring the other way round
pub record Border (m : Mesh) (per : List ℕ) (t : Table) : Type 0 where
  pub next-round : (i : ℕ) → i < length per → cell t (outer m per (after (length per) i)) 2 ≡ outer m per i
  pub previous-round : (i : ℕ) → i < length per → cell t (outer m per i) 3 ≡ outer m per (after (length per) i)

-- the lists that an insert goes by: each arc of list i leaves vertex i of the perimeter
abbrev pub ListsLeave : Mesh → List ℕ → List (List ℕ) → Type 0
ListsLeave m per lists = (i : ℕ) → i < length per → (y : ℕ) → T (has (get_or lists i []) y) → IsArc m y × (source m y ≡ corner per i)

-- what the exterior leaves of the arcs t₀: they stay linked; next of an arc changes only if the arc has no face or comes to lead to an arc
-- without one, and previous likewise; an arc with neither end on the perimeter keeps its row
pub record Reached (m : Mesh) (per : List ℕ) (t₀ t : Table) : Type 0 where
  pub out : Outside m per t₀ t
  pub linked : Linked m t
  pub next-either : (y : ℕ) → (cell t y 2 ≡ cell t₀ y 2) ⊎ ((cell t₀ y 4 ≡ 0) ⊎ (cell t₀ (cell t y 2) 4 ≡ 0))
  pub previous-either : (y : ℕ) → (cell t y 3 ≡ cell t₀ y 3) ⊎ ((cell t₀ y 4 ≡ 0) ⊎ (cell t₀ (cell t y 3) 4 ≡ 0))
  pub away : (y c : ℕ) → (T (has per (source m y)) → ⊥) → (T (has per (dest m y)) → ⊥) → cell t y c ≡ cell t₀ y c
