-- "Need: ..." and answer 7: what it is that the need suffices. An edit that is behind the test of its need makes no more records than the need
-- says, each takes a free row and a key, and at no step is a row or a key asked for where none is left.
use Rattle.std.specs.Prelude.{ℕ, ◌+◌, ◌*◌, ◌≤◌, ◌≡◌, List, T}
use Rattle.rules.specs.declared.Edit.{Edit}
use Rattle.rules.specs.declared.Edit.TheVariants.{VertexInsert, FaceInsert, FaceRemove, FaceSplit, FacePoke, FaceBridge, FaceExtrude, ArcBridge, ArcExtrude}
use Rattle.rules.specs.Table.{count, unused}
use Rattle.rules.specs.Mesh.{Mesh, key_limit, vertex_kind, edge_kind, face_kind, next_key}
use Rattle.rules.specs.Step.{accepted}
use Rattle.rules.specs.Call.{Need, need, work}
use Rattle.makers.specs.Makers.{Makers, LikeRules, work_by}

-- nothing is lost: n is m after so many vertices, edges and faces were made and so many faces removed. Each vertex, edge and face made took a
-- free row and a key, each edge two free rows of the arcs, and each face removed gave its row back. A record that found no free row would
-- have counted a key and taken no row
pub record Tally (m n : Mesh) (vertices edges faces removed : ℕ) : Type 0 where
  pub vertex-rows : count unused n.vertices + vertices ≡ count unused m.vertices
  pub edge-rows : count unused n.edges + edges ≡ count unused m.edges
  pub arc-rows : count unused n.arcs + 2 * edges ≡ count unused m.arcs
  pub face-rows : count unused n.faces + faces ≡ count unused m.faces + removed
  pub vertex-keys : next_key n vertex_kind ≡ next_key m vertex_kind + vertices
  pub edge-keys : next_key n edge_kind ≡ next_key m edge_kind + edges
  pub face-keys : next_key n face_kind ≡ next_key m face_kind + faces

-- and what was made is within a need: as many rows and keys at most, where a face may take a removed one's row
pub record Within (m n : Mesh) (w : Need) (removed : ℕ) : Type 0 where
  pub vertices : ℕ
  pub edges : ℕ
  pub faces : ℕ
  pub tally : Tally m n vertices edges faces removed
  pub vertices-needed : vertices ≤ w.vertices
  pub edges-needed : edges ≤ w.edges
  pub faces-needed : faces ≤ w.faces + removed
  pub face-keys-needed : faces ≤ w.face_keys

-- an edit removes as many faces
unfoldable pub removed_by : Edit → ℕ
removed_by (VertexInsert p) = 0
removed_by (FaceInsert mark) = 0
removed_by (FaceRemove f) = 1
removed_by (FaceSplit f s d) = 1
removed_by (FacePoke f p) = 1
removed_by (FaceBridge f g) = 2
removed_by (FaceExtrude f move) = 1
removed_by (ArcBridge a b c d) = 0
removed_by (ArcExtrude s d move) = 0

-- the need of an edit suffices
pub record Suffices (m : Mesh) (e : Edit) (keys : List ℕ) : Type 0 where
  -- it never runs out: whatever makers do where no row or no key is left, the edit's tables and its answer are the same
  pub never-out : (by : Makers) → LikeRules by → work_by by m e keys ≡ work m e keys
  -- what it leaves is m with what it made, none of it lost and all within the need, whether it is accepted or refused in mid-edit
  pub within : Within m (work m e keys).tables (need m e keys) (removed_by e)
  -- if it is accepted, it made as many vertices as it needed, and a face for each face key
  pub vertices-made : T (accepted (work m e keys).answer) → within.vertices ≡ (need m e keys).vertices
  pub faces-made : T (accepted (work m e keys).answer) → within.faces ≡ (need m e keys).face_keys
  -- and no key above 4,294,967,294 was given
  pub vertex-keys-left : next_key (work m e keys).tables vertex_kind ≤ key_limit
  pub edge-keys-left : next_key (work m e keys).tables edge_kind ≤ key_limit
  pub face-keys-left : next_key (work m e keys).tables face_kind ≤ key_limit
