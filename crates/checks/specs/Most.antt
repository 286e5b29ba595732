-- What the code's need says, and what an edit needs at most, told without a search among the arcs: where there is room for that, there is room
-- for its need.
use Rattle.std.specs.Prelude.{ℕ, ◌≤◌, List, length}
use Rattle.rules.specs.declared.Edit.{Edit}
use Rattle.rules.specs.declared.Edit.TheVariants.{VertexInsert, FaceInsert, FaceRemove, FaceSplit, FacePoke, FaceBridge, FaceExtrude, ArcBridge, ArcExtrude}
use Rattle.rules.specs.Mesh.{Mesh}
use Rattle.rules.specs.Call.{Need, needs, need}
use Rattle.checks.specs.declared.call.Need as Code

-- the need that the code holds
abbrev pub needed : Code.Need → Need
needed n = needs n.vertices n.edges n.faces n.facekeys

-- no more vertices, edges, faces and face keys than the other
pub record AtMost (n k : Need) : Type 0 where
  pub vertices : n.vertices ≤ k.vertices
  pub edges : n.edges ≤ k.edges
  pub faces : n.faces ≤ k.faces
  pub face_keys : n.face_keys ≤ k.face_keys

-- 01's "one edge for each pair without an arc" and "one edge if the two vertices have none", as if none had one: a face insert has a pair for
-- each key, an arc bridge four. Any other edit has the need that 01 gives
unfoldable pub most : Mesh → Edit → List ℕ → Need
most m (VertexInsert p) keys = need m (VertexInsert p) keys
most m (FaceInsert mark) keys = needs 0 (length keys) 1 1
most m (FaceRemove f) keys = need m (FaceRemove f) keys
most m (FaceSplit f s d) keys = needs 0 1 1 2
most m (FacePoke f p) keys = need m (FacePoke f p) keys
most m (FaceBridge f g) keys = need m (FaceBridge f g) keys
most m (FaceExtrude f move) keys = need m (FaceExtrude f move) keys
most m (ArcBridge a b c d) keys = needs 0 4 1 1
most m (ArcExtrude s d move) keys = need m (ArcExtrude s d move) keys
