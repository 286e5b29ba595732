-- How far an edit reaches: it works among its own vertices. Arcs with neither end there keep their rows, and a face that was there, or that was put
-- in on the way, gains nothing later. So the rows near an edit tell whether its result is sound, and are all that is copied over of the arcs.
use Rattle.std.specs.Prelude.{ℕ, ◌≤◌, ◌<◌, ◌≡◌, List, [], ◌∷◌, ◌++◌, ◌⊎◌, T}
use Rattle.rules.specs.declared.Edit.{Edit}
use Rattle.rules.specs.declared.Edit.TheVariants.{VertexInsert, FaceInsert, FaceRemove, FaceSplit, FacePoke, FaceBridge, FaceExtrude, ArcBridge, ArcExtrude}
use Rattle.rules.specs.Table.{cell, has}
use Rattle.rules.specs.Mesh.{Mesh, source, dest, next, previous, face, edge, face_arc, key_at, find_vertex, find_face, face_kind, next_key}
use Rattle.rules.specs.Link.{ring_vertices}
use Rattle.rules.specs.Step.{accepted}
use Rattle.rules.specs.Call.{by_keys, work}
use Rattle.proved.specs.Demand.{Holds, onward}
use Rattle.proved.specs.Facts.{IsArc, IsEdge, IsFace, RingFacts}
use Rattle.kept.specs.Frame.{AllButRings}
use Rattle.kept.specs.Reaches.{KeepsEnds, Spared, Apart}

-- ---- the vertices of an edit

-- those that it is given or that the rings of its faces have, by their links; new ones are not among them
unfoldable pub among : Mesh → Edit → List ℕ → List ℕ
among m (VertexInsert p) keys = []
among m (FaceInsert mark) keys = by_keys m keys
among m (FaceRemove f) keys = ring_vertices m (find_face m f)
among m (FaceSplit f s d) keys = ring_vertices m (find_face m f)
among m (FacePoke f p) keys = ring_vertices m (find_face m f)
among m (FaceBridge f g) keys = ring_vertices m (find_face m f) ++ ring_vertices m (find_face m g)
among m (FaceExtrude f move) keys = ring_vertices m (find_face m f)
among m (ArcBridge a b c d) keys = find_vertex m a ∷ find_vertex m b ∷ find_vertex m c ∷ find_vertex m d ∷ []
among m (ArcExtrude s d move) keys = find_vertex m s ∷ find_vertex m d ∷ []

-- ---- rows

-- n is m after an edit, or a part of one, whose vertices are near
pub record Local (near : ℕ → Type 0) (m n : Mesh) : Type 0 where
  -- what was there is there, arcs with their ends and their edge, edges with their rows; a new arc has a new edge
  pub keeps : KeepsEnds m n
  pub edge_stays : (x : ℕ) → IsArc m x → edge n x ≡ edge m x
  pub edges-stay : (e c : ℕ) → IsEdge m e → cell n.edges e c ≡ cell m.edges e c
  pub new-edge : (x : ℕ) → IsArc n x → (IsArc m x → ⊥) → IsEdge m (edge n x) → ⊥
  -- an arc with neither end near keeps its row
  pub away : (x c : ℕ) → IsArc m x → (near (source m x) → ⊥) → (near (dest m x) → ⊥) → cell n.arcs x c ≡ cell m.arcs x c

-- ---- faces

-- the face g gains nothing from m to n: it keeps its record, what holds it held it, and next and previous of these stay unless they lead to an arc
-- that does not hold it
pub record GainsNothing (m n : Mesh) (g : ℕ) : Type 0 where
  pub record-stays : (c : ℕ) → cell n.faces g c ≡ cell m.faces g c
  pub no_more : (x : ℕ) → Holds n g x → Holds m g x
  pub next-or : (x : ℕ) → Holds n g x → (next n x ≡ next m x) ⊎ (Holds n g (next n x) → ⊥)
  pub previous-or : (x : ℕ) → Holds n g x → (previous n x ≡ previous m x) ⊎ (Holds n g (previous n x) → ⊥)

-- the face g has come since m: in a mesh on the way its ring was sound, and from there on it has gained nothing
pub record Came (m n : Mesh) (g : ℕ) : Type 0 where
  pub counted : next_key m face_kind ≤ key_at n.faces g
  pub mid : Mesh
  pub ring : RingFacts mid g
  pub apart : (x : ℕ) → Holds mid g x → Apart mid x
  pub keeps : KeepsEnds mid n
  pub gains : GainsNothing mid n g

-- every face of n was there in m and was spared, or has come since
abbrev pub FacesSince : Mesh → Mesh → Type 0
FacesSince m n = (g : ℕ) → IsFace n g → (IsFace m g × Spared m n g) ⊎ Came m n g

-- ---- an edit

-- what an edit leaves, also where it is refused on the way; and of faces, where it is accepted
pub record Reach (m : Mesh) (e : Edit) (keys : List ℕ) : Type 0 where
  pub base : AllButRings (work m e keys).tables
  pub local : Local (λ v. T (has (among m e keys) v)) m (work m e keys).tables
  pub faces : T (accepted (work m e keys).answer) → FacesSince m (work m e keys).tables

-- ---- rings, told by the arcs near the edit

-- an arc that holds a face is followed and preceded by arcs that hold it
pub record OnItsRing (n : Mesh) (x : ℕ) : Type 0 where
  pub follows : face n (next n x) ≡ face n x
  pub precedes : face n (previous n x) ≡ face n x

-- the arc x is in use and holds a face only if it is on its ring
abbrev pub RingAt : Mesh → ℕ → Type 0
RingAt n x = IsArc n x → (face n x ≡ 0 → ⊥) → OnItsRing n x

-- next from the face's arc returns after so many arcs, each of which holds the face and is on its ring
pub record RingWalked (n : Mesh) (g : ℕ) : Type 0 where
  pub size : ℕ
  pub some : 1 ≤ size
  pub returns : onward n g size ≡ face_arc n g
  pub each : (k : ℕ) → k < size → Holds n g (onward n g k) × OnItsRing n (onward n g k)
