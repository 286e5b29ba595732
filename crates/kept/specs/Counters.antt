-- "Keys are u32, counted up from 0 per kind and never given twice": what that means of the mesh before and after calls.
use Rattle.std.specs.Prelude.{ℕ, ◌+◌, ◌≤◌, ◌<◌, ◌≡◌, ◌⊎◌, length, T}
use Rattle.rules.specs.declared.Position.{Position}
use Rattle.rules.specs.declared.Move.{Move}
use Rattle.rules.specs.declared.Edit.{Edit}
use Rattle.rules.specs.declared.Edit.TheVariants.{VertexInsert, FaceInsert, FaceRemove, FaceSplit, FacePoke, FaceBridge, FaceExtrude, ArcBridge}
use Rattle.rules.specs.Table.{Table, there}
use Rattle.rules.specs.Mesh.{Mesh, key_at, vertex_kind, edge_kind, face_kind, next_key}
use Rattle.rules.specs.Step.{told}
use Rattle.proved.specs.Demand.{Made, after_call}
use Rattle.kept.specs.Exactly.{answer}

-- from m to n no counter falls, and there are as many
pub record CountersRise (m n : Mesh) : Type 0 where
  pub as_many : length n.counters ≡ length m.counters
  pub rise : (kind : ℕ) → next_key m kind ≤ next_key n kind

-- a record with the key k stands in the table
pub record InUse (t : Table) (k : ℕ) : Type 0 where
  pub row : ℕ
  pub in_use : T (there t row)
  pub its-key : key_at t row ≡ k

-- a key was in use before, or has come from the counter since; and so every key that is in use later
abbrev pub OldOrNew : Table → ℕ → ℕ → Type 0
OldOrNew before counter k = InUse before k ⊎ (counter ≤ k)

abbrev pub OldOrCounted : Table → Table → ℕ → Type 0
OldOrCounted before later counter = (k : ℕ) → InUse later k → OldOrNew before counter k

-- so from m to n, for each kind
pub record KeysCounted (m n : Mesh) : Type 0 where
  pub counters : CountersRise m n
  pub vertices : OldOrCounted m.vertices n.vertices (next_key m vertex_kind)
  pub edges : OldOrCounted m.edges n.edges (next_key m edge_kind)
  pub faces : OldOrCounted m.faces n.faces (next_key m face_kind)

-- a key that was given and is not in use in m is not in use in n
abbrev pub StaysOut : Table → Table → ℕ → Type 0
StaysOut before later counter = (k : ℕ) → k < counter → (InUse before k → ⊥) → InUse later k → ⊥

pub record NeverAgain (m n : Mesh) : Type 0 where
  pub vertices : StaysOut m.vertices n.vertices (next_key m vertex_kind)
  pub edges : StaysOut m.edges n.edges (next_key m edge_kind)
  pub faces : StaysOut m.faces n.faces (next_key m face_kind)

-- the face key k was given, and no record has it
pub record Gone (m : Mesh) (k : ℕ) : Type 0 where
  pub was-given : k < next_key m face_kind
  pub not-in-use : InUse m.faces k → ⊥

-- an edit that removes the face with the key f
pub data Removes : Edit → ℕ → Type 0 where
  by-remove : (f : ℕ) → Removes (FaceRemove f) f
  by-split : (f s d : ℕ) → Removes (FaceSplit f s d) f
  by-poke : (f : ℕ) (p : Position) → Removes (FacePoke f p) f
  by-bridge : (f g : ℕ) → Removes (FaceBridge f g) f
  by-bridge-to : (f g : ℕ) → Removes (FaceBridge f g) g
  by-extrude : (f : ℕ) (move : Move) → Removes (FaceExtrude f move) f

-- ---- keys that are returned

-- an edit whose answer is the key of a new record, and that record's kind
pub data Returns : Edit → ℕ → Type 0 where
  new-vertex : (p : Position) → Returns (VertexInsert p) vertex_kind
  new-face : (mark : ℕ) → Returns (FaceInsert mark) face_kind
  new-middle : (f : ℕ) (p : Position) → Returns (FacePoke f p) vertex_kind
  new-top : (f : ℕ) (move : Move) → Returns (FaceExtrude f move) face_kind
  new-bridge : (a b c d : ℕ) → Returns (ArcBridge a b c d) face_kind

-- the key returned is the counter before the call, and the counter after it is past that key
pub record KeyReturned (m : Mesh) (c : Made) (kind : ℕ) : Type 0 where
  pub was-next : (told (answer m c)).key ≡ next_key m kind
  pub now-past : (told (answer m c)).key < next_key (after_call m c) kind

-- an arc extrude returns the arc of two new vertices
pub record ArcReturned (m : Mesh) (c : Made) : Type 0 where
  pub was-next : (told (answer m c)).source ≡ next_key m vertex_kind
  pub and-next : (told (answer m c)).destination ≡ next_key m vertex_kind + 1
  pub now-past : (told (answer m c)).destination < next_key (after_call m c) vertex_kind
