-- Demand 3 in words: the lists of calls that it speaks of, and what it says of a mesh.
use Rattle.std.specs.Prelude.{ℕ, ◌+◌, ◌-◌, ◌*◌, ◌≤◌, ◌<◌, ◌≡◌, Bool, not, ◌&&◌, cond, List, [], ◌∷◌, ◌++◌, length, get_or, T, eqb}
use Rattle.std.specs.Float.{binary64}
use Rattle.std.specs.Float.Ieee.{of_bits}
use Rattle.rules.specs.declared.Position.{Position}
use Rattle.rules.specs.declared.Move.{Move}
use Rattle.rules.specs.declared.Edit.{Edit}
use Rattle.rules.specs.declared.Edit.TheVariants.{VertexInsert, FaceInsert, FaceRemove, FaceSplit, FacePoke, FaceBridge, FaceExtrude, ArcBridge, ArcExtrude}
use Rattle.rules.specs.Answer.{Arity}
use Rattle.rules.specs.Table.{count, used, there, sum_below, times}
use Rattle.rules.specs.Mesh.{Mesh, Room, next, previous, face, face_arc, key_at}
use Rattle.rules.specs.Point.{position, zero_float}
use Rattle.rules.specs.Step.{told}
use Rattle.rules.specs.Call.{call, called, vertex_insert, face_insert, face_remove, face_split, face_poke, face_bridge, face_extrude, arc_bridge_call, arc_extrude, face_arity}
use Rattle.rules.specs.Script.{empty_room, empty_mesh}

-- ---- any calls

-- one call as a caller makes it: any of the nine edits with its arguments, the keys beside it, and two rooms of any size and contents
pub record Made : Type 0 where
  pub edit : Edit
  pub keys : List ℕ
  pub one : Room
  pub two : Room

-- the mesh after a call, accepted or refused, and after a list of calls, first to last
unfoldable pub after_call : Mesh → Made → Mesh
after_call m c = (called m c.one c.two (call c.edit) c.keys).mesh

unfoldable pub after_calls : Mesh → List Made → Mesh
after_calls m [] = m
after_calls m (c ∷ cs) = after_calls (after_call m c) cs

abbrev pub made : Edit → List ℕ → Room → Room → Made
made e keys one two = record { edit = e; keys = keys; one = one; two = two }

-- the nine public calls are such calls
pub record PublicCalls (m : Mesh) (one two : Room) : Type 0 where
  pub vertex-insert : (p : Position) → (vertex_insert m one two p).mesh ≡ after_call m (made (VertexInsert p) [] one two)
  pub face-insert : (keys : List ℕ) (mark : ℕ) → (face_insert m one two keys mark).mesh ≡ after_call m (made (FaceInsert mark) keys one two)
  pub face-remove : (f : ℕ) → (face_remove m one two f).mesh ≡ after_call m (made (FaceRemove f) [] one two)
  pub face-split : (f s d : ℕ) → (face_split m one two f s d).mesh ≡ after_call m (made (FaceSplit f s d) [] one two)
  pub face-poke : (f : ℕ) (p : Position) → (face_poke m one two f p).mesh ≡ after_call m (made (FacePoke f p) [] one two)
  pub face-bridge : (f g : ℕ) → (face_bridge m one two f g).mesh ≡ after_call m (made (FaceBridge f g) [] one two)
  pub face-extrude : (f : ℕ) (move : Move) → (face_extrude m one two f move).mesh ≡ after_call m (made (FaceExtrude f move) [] one two)
  pub arc-bridge : (a b c d : ℕ) → (arc_bridge_call m one two a b c d).mesh ≡ after_call m (made (ArcBridge a b c d) [] one two)
  pub arc-extrude : (s d : ℕ) (move : Move) → (arc_extrude m one two s d move).mesh ≡ after_call m (made (ArcExtrude s d move) [] one two)

-- three vertices apart, at (0,0,0), (1,0,0) and (2,0,0); and a face on them
unfoldable pub three_apart : List Made
three_apart =
    let corner : ℕ → Made = λ bits. made (VertexInsert (position (of_bits binary64 bits) zero_float zero_float)) [] (empty_room 3 3 1) (empty_room 3 3 1) in
    corner 0 ∷ corner 4607182418800017408 ∷ corner 4611686018427387904 ∷ []

unfoldable pub triangle : List Made
triangle = three_apart ++ (made (FaceInsert 7) (0 ∷ 1 ∷ 2 ∷ []) (empty_room 3 3 1) (empty_room 3 3 1) ∷ [])

-- from an empty mesh with tables for v vertices, e edges and f faces, after any calls
unfoldable pub reached : ℕ → ℕ → ℕ → List Made → Mesh
reached v e f calls = after_calls (empty_mesh v e f) calls

-- ---- rows

-- two meshes have as many rows in each table
pub record SameRows (m n : Mesh) : Type 0 where
  pub vertex-rows : length n.vertices ≡ length m.vertices
  pub position-rows : length n.positions ≡ length m.positions
  pub arc-rows : length n.arcs ≡ length m.arcs
  pub edge-rows : length n.edges ≡ length m.edges
  pub face-rows : length n.faces ≡ length m.faces

-- working room for tables of v vertices, e edges and f faces, or larger
pub record RoomFor (v e f : ℕ) (r : Room) : Type 0 where
  pub vertex-rows : v ≤ length r.vertices
  pub position-rows : v ≤ length r.positions
  pub arc-rows : 2 * e ≤ length r.arcs
  pub edge-rows : e ≤ length r.edges
  pub face-rows : f ≤ length r.faces

-- ---- arcs that hold a face

-- an arc is a used row of the arcs; it holds the face f; it holds some face
abbrev pub holds : ℕ → List ℕ → Bool
holds f r = used r && eqb (get_or r 4 0) f

abbrev pub holds_some : List ℕ → Bool
holds_some r = used r && not (eqb (get_or r 4 0) 0)

-- the arc with the link x holds f
pub record Holds (m : Mesh) (f x : ℕ) : Type 0 where
  pub exists : T (there m.arcs x)
  pub its-face : face m x ≡ f

-- how many arcs hold the face f; how many hold a face
abbrev pub holders : Mesh → ℕ → ℕ
holders m f = count (holds f) m.arcs

abbrev pub all_holders : Mesh → ℕ
all_holders m = count holds_some m.arcs

-- a number for each face in use, added up
abbrev pub over_faces : Mesh → (ℕ → ℕ) → ℕ
over_faces m g = sum_below (λ i. cond (there m.faces (i + 1)) (g (i + 1)) 0) (length m.faces)

-- the edges in use
abbrev pub edge_count : Mesh → ℕ
edge_count m = count used m.edges

-- the arc that a face's record names, and the arcs that follow it by next and by previous
abbrev pub onward : Mesh → ℕ → ℕ → ℕ
onward m f k = times (next m) k (face_arc m f)

abbrev pub backward : Mesh → ℕ → ℕ → ℕ
backward m f k = times (previous m) k (face_arc m f)

-- ---- the demand

-- of one face f in use
pub record RingOf (m : Mesh) (f : ℕ) : Type 0 where
  -- following next from the arc that the face's record names comes back after exactly as many arcs as hold that face
  pub comes_back : onward m f (holders m f) ≡ face_arc m f
  pub not-before : (k : ℕ) → 1 ≤ k → k < holders m f → onward m f k ≡ face_arc m f → ⊥
  -- 3 to 64
  pub at-least-3 : 3 ≤ holders m f
  pub at-most-64 : holders m f ≤ 64
  -- meeting each once: each arc on the way holds the face, each arc that holds it is on the way, and none is met twice
  pub meets-holders : (k : ℕ) → k < holders m f → Holds m f (onward m f k)
  pub meets-each : (x : ℕ) → Holds m f x → (k : ℕ) × (k < holders m f) × (onward m f k ≡ x)
  pub meets-once : (j k : ℕ) → j < holders m f → k < holders m f → onward m f j ≡ onward m f k → j ≡ k
  -- previous runs the same ring backwards
  pub backwards : (k : ℕ) → k ≤ holders m f → backward m f k ≡ onward m f (holders m f - k)
  -- the arity reported, by the face's key, is that number
  pub reported : face_arity m (key_at m.faces f) ≡ Arity (holders m f)

-- of all faces
pub record Demand3 (m : Mesh) : Type 0 where
  pub each-face : (f : ℕ) → T (there m.faces f) → RingOf m f
  -- over all faces these counts add up to the number of arcs that hold a face
  pub adds-up : over_faces m (holders m) ≡ all_holders m
  -- and so do the arities that the calls report
  pub reported-add-up : over_faces m (λ f. (told (face_arity m (key_at m.faces f))).arity) ≡ all_holders m
  -- at most twice the number of edges
  pub at-most-twice : all_holders m ≤ 2 * edge_count m
