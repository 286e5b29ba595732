-- Document 02, L13, "Show what an edit can't reach": the request sentence by sentence, in its order and its words. m is the mesh that a call
-- is lent and r the mesh that it leaves. No sentence asks in which mode the call was made: it is proved of the plain mode (proofs/Unreached),
-- and can be proved of another as it stands. A record is what rules/specs/Records says, with links read as keys.
use Rattle.std.specs.Prelude.{ℕ, ◌<◌, ◌≡◌, List, length, get_or, T}
use Rattle.rules.specs.declared.Position.{Position}
use Rattle.rules.specs.Table.{after, has}
use Rattle.rules.specs.Mesh.{Mesh, Room, next, previous, face, key_at, find_face}
use Rattle.rules.specs.Link.{ring}
use Rattle.rules.specs.Step.{told, accepted}
use Rattle.rules.specs.Records.{vertex_record, arc_record, face_record}
use Rattle.rules.specs.Call.{Outcome, arc_by_keys, face_poke, face_split}
use Rattle.proved.specs.Facts.{IsVertex, IsArc, IsFace}

-- ---- to keep a record: it is still there, and says what it said

pub record KeepsVertex (m r : Mesh) (v : ℕ) : Type 0 where
  pub exists : IsVertex r v
  pub whole : vertex_record r v ≡ vertex_record m v

pub record KeepsArc (m r : Mesh) (x : ℕ) : Type 0 where
  pub exists : IsArc r x
  pub whole : arc_record r x ≡ arc_record m x

pub record KeepsFace (m r : Mesh) (g : ℕ) : Type 0 where
  pub exists : IsFace r g
  pub whole : face_record r g ≡ face_record m g

-- an arc that keeps a part of its record is still there, under its name
pub record KeepsFaceAndEdge (m r : Mesh) (x : ℕ) : Type 0 where
  pub exists : IsArc r x
  pub same_name : (arc_record r x).name ≡ (arc_record m x).name
  pub same-face : (arc_record r x).face ≡ (arc_record m x).face
  pub same-edge : (arc_record r x).edge ≡ (arc_record m x).edge

pub record KeepsNextAndPrevious (m r : Mesh) (x : ℕ) : Type 0 where
  pub same_next : (arc_record r x).next ≡ (arc_record m x).next
  pub same-previous : (arc_record r x).previous ≡ (arc_record m x).previous

-- the same ring, arc for arc: the same arcs in the same order, each with its whole record
pub record KeepsRing (m r : Mesh) (g : ℕ) : Type 0 where
  pub same-arcs : ring r g ≡ ring m g
  pub each-arc : (x : ℕ) → T (has (ring m g) x) → KeepsArc m r x

-- ---- a perimeter, by the keys of its vertices

-- the arc of place i: from the vertex with that key to the one with the key after it
unfoldable pub perimeter_arc : Mesh → List ℕ → ℕ → ℕ
perimeter_arc r keys i = arc_by_keys r (get_or keys i 0) (get_or keys (after (length keys) i) 0)

-- every arc of it is there and holds the face with the key new, which was not known before; its next is the arc of the place after, and
-- the previous of that arc is it again
pub record PerimeterInRing (m r : Mesh) (keys : List ℕ) (new : ℕ) : Type 0 where
  pub new-before : find_face m new ≡ 0
  pub new-exists : IsFace r (find_face r new)
  pub arc-exists : (i : ℕ) → i < length keys → IsArc r (perimeter_arc r keys i)
  pub holds-new : (i : ℕ) → i < length keys → face r (perimeter_arc r keys i) ≡ find_face r new
  pub next-on : (i : ℕ) → i < length keys → next r (perimeter_arc r keys i) ≡ perimeter_arc r keys (after (length keys) i)
  pub previous-on : (i : ℕ) → i < length keys → previous r (perimeter_arc r keys (after (length keys) i)) ≡ perimeter_arc r keys i

-- another arc than those; a vertex outside
abbrev pub OffPerimeter : Mesh → List ℕ → ℕ → Type 0
OffPerimeter r keys x = (i : ℕ) → i < length keys → x ≡ perimeter_arc r keys i → ⊥

abbrev pub OutsidePerimeter : Mesh → List ℕ → ℕ → Type 0
OutsidePerimeter m keys v = T (has keys (key_at m.vertices v)) → ⊥

-- ---- other faces

-- an arc of another face than the new one: it held a face before the new one came
abbrev pub OfAnotherFace : Mesh → ℕ → Type 0
OfAnotherFace m x = face m x ≡ 0 → ⊥

-- another face than the one named, which is named by its key
abbrev pub OtherThan : Mesh → ℕ → ℕ → Type 0
OtherThan m named g = key_at m.faces g ≡ named → ⊥

-- ---- "prove this of face insert in the plain mode: if it is accepted,"

pub record UnreachedByInsert (m r : Mesh) (keys : List ℕ) (new : ℕ) : Type 0 where
  -- "the perimeter's arcs hold the new face and are linked in a ring;"
  pub perimeter-arcs : PerimeterInRing m r keys new
  -- "every other arc there before keeps its face and its edge;"
  pub other-arcs : (x : ℕ) → IsArc m x → OffPerimeter r keys x → KeepsFaceAndEdge m r x
  -- "no next or previous changes on an arc of another face;"
  pub other-faces : (x : ℕ) → IsArc m x → OfAnotherFace m x → KeepsNextAndPrevious m r x
  -- "vertices outside the perimeter keep their whole record."
  pub other-vertices : (v : ℕ) → IsVertex m v → OutsidePerimeter m keys v → KeepsVertex m r v

-- of a call with these keys, in whatever mode it gave this outcome: the new face is the one whose key it answered
abbrev pub InsertCannotReach : Mesh → List ℕ → Outcome → Type 0
InsertCannotReach m keys o = T (accepted o.answer) → UnreachedByInsert m o.mesh keys (told o.answer).key

-- ---- "For poke and split:"

pub record UnreachedByPokeOrSplit (m r : Mesh) (named : ℕ) : Type 0 where
  -- "faces other than the one named keep their record"
  pub other-records : (g : ℕ) → IsFace m g → OtherThan m named g → KeepsFace m r g
  -- "and the same ring, arc for arc."
  pub other-rings : (g : ℕ) → IsFace m g → OtherThan m named g → KeepsRing m r g

-- of a call that names a face, in whatever mode it gave this outcome
abbrev pub PokeOrSplitCannotReach : Mesh → ℕ → Outcome → Type 0
PokeOrSplitCannotReach m named o = T (accepted o.answer) → UnreachedByPokeOrSplit m o.mesh named

-- of both public calls
pub record PokeAndSplitCannotReach (m : Mesh) (one two : Room) : Type 0 where
  pub poke : (named : ℕ) (p : Position) → PokeOrSplitCannotReach m named (face_poke m one two named p)
  pub split : (named s d : ℕ) → PokeOrSplitCannotReach m named (face_split m one two named s d)
