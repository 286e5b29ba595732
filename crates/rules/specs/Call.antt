-- The public calls: the order of answers, the needs, and what each call answers and leaves, for every input.
use Rattle.std.specs.Prelude.{ℕ, ◌+◌, ◌-◌, ◌*◌, Bool, true, not, ◌&&◌, cond, List, [], ◌∷◌, map, length, get_or, replicate, eqb, leb}
use Rattle.rules.specs.declared.Position.{Position}
use Rattle.rules.specs.declared.Move.{Move}
use Rattle.rules.specs.declared.Refusal.TheVariants.{Tables, Argument, TopologyMalformed, TopologyNotFound, NoRoom, WouldBreak}
use Rattle.rules.specs.Answer.{Answer}
use Rattle.rules.specs.Answer.{Key, Arity, Done, Refused}
use Rattle.rules.specs.declared.Edit.{Edit}
use Rattle.rules.specs.declared.Edit.TheVariants.{VertexInsert, FaceInsert, FaceRemove, FaceSplit, FacePoke, FaceBridge, FaceExtrude, ArcBridge, ArcExtrude}
use Rattle.rules.specs.declared.Call.{Call}
use Rattle.rules.specs.Table.{count, every, unused, sum_below}
use Rattle.rules.specs.Mesh.{Mesh, Room, room, ring_limit, key_limit, find_vertex, find_face, find_arc, vertex_kind, edge_kind, face_kind, next_key}
use Rattle.rules.specs.Point.{zero_float, finite_position, finite_move}
use Rattle.rules.specs.Link.{ring, ring_vertices, new_vertex}
use Rattle.rules.specs.Step.{Step, step, stops, accepted}
use Rattle.rules.specs.Insert.{arc_at, insert_checks, insert_work}
use Rattle.rules.specs.Edit.{known, remove_work, split_checks, split_work, poke_work, corners, arc_bridge_checks, arc_bridge_work, bridge_checks, bridge_work}
use Rattle.rules.specs.Extrude.{moved_finite, extrude_work, arc_extrude_checks, arc_extrude_work}
use Rattle.rules.specs.Sound.{sound}

-- ---- working room

-- it is too small if one of its tables has fewer rows than the mesh table of its kind
unfoldable pub room_enough : Mesh → Room → Bool
room_enough m r =
    leb (length m.vertices) (length r.vertices)
    && (leb (length m.positions) (length r.positions)
    && (leb (length m.arcs) (length r.arcs)
    && (leb (length m.edges) (length r.edges)
    && leb (length m.faces) (length r.faces))))

-- it ends all zero: every row, however large it is
unfoldable pub zeroed : Room → Room
zeroed r =
    room (replicate (length r.vertices) (0 ∷ 0 ∷ []))
    (replicate (length r.positions) (zero_float ∷ zero_float ∷ zero_float ∷ []))
    (replicate (length r.arcs) (0 ∷ 0 ∷ 0 ∷ 0 ∷ 0 ∷ 0 ∷ []))
    (replicate (length r.edges) (0 ∷ 0 ∷ 0 ∷ []))
    (replicate (length r.faces) (0 ∷ 0 ∷ 0 ∷ []))

-- answer 1: a table is unsound or over the limit, or working room is too small
unfoldable pub ready : Mesh → Room → Room → Bool
ready m one two = sound m && (room_enough m one && room_enough m two)

-- ---- 2 for what the caller gave

-- more than 64 keys; a given number (coordinate, offset, centre, factor) that is not finite
unfoldable pub given : Edit → List ℕ → Bool
given (VertexInsert p) keys = finite_position p
given (FaceInsert mark) keys = leb (length keys) ring_limit
given (FaceRemove f) keys = true
given (FaceSplit f s d) keys = true
given (FacePoke f p) keys = finite_position p
given (FaceBridge f g) keys = true
given (FaceExtrude f move) keys = finite_move move
given (ArcBridge a b c d) keys = true
given (ArcExtrude s d move) keys = finite_move move

-- ---- the Rust's checks before its first change, in its order

-- the arc from the vertex with the key s to the one with the key d
unfoldable pub arc_by_keys : Mesh → ℕ → ℕ → ℕ
arc_by_keys m s d = find_arc m (find_vertex m s) (find_vertex m d)

-- the vertices with these keys
unfoldable pub by_keys : Mesh → List ℕ → List ℕ
by_keys m keys = map (find_vertex m) keys

unfoldable pub checks : Mesh → Edit → List ℕ → Answer
checks m (VertexInsert p) keys = Done
checks m (FaceInsert mark) keys = insert_checks m keys (by_keys m keys)
checks m (FaceRemove f) keys = known (find_face m f)
checks m (FaceSplit f s d) keys = split_checks m (find_face m f) (find_vertex m s) (find_vertex m d)
checks m (FacePoke f p) keys = known (find_face m f)
checks m (FaceBridge f g) keys = bridge_checks m (find_face m f) (find_face m g)
checks m (FaceExtrude f move) keys = known (find_face m f)
checks m (ArcBridge a b c d) keys = arc_bridge_checks m (arc_by_keys m a b) (arc_by_keys m c d)
checks m (ArcExtrude s d move) keys = arc_extrude_checks m (arc_by_keys m s d)

-- ---- 2 for moved coordinates

unfoldable pub moves_finite : Mesh → Edit → Bool
moves_finite m (VertexInsert p) = true
moves_finite m (FaceInsert mark) = true
moves_finite m (FaceRemove f) = true
moves_finite m (FaceSplit f s d) = true
moves_finite m (FacePoke f p) = true
moves_finite m (FaceBridge f g) = true
moves_finite m (FaceExtrude f move) = moved_finite m move (ring_vertices m (find_face m f))
moves_finite m (ArcBridge a b c d) = true
moves_finite m (ArcExtrude s d move) = moved_finite m move (find_vertex m d ∷ find_vertex m s ∷ [])

-- ---- 7: the need against free rows and keys

-- how many vertices, edges and faces an edit needs, and how many face keys. Keys of vertices and edges are needed as many as rows
pub record Need : Type 0 where
  pub vertices : ℕ
  pub edges : ℕ
  pub faces : ℕ
  pub face_keys : ℕ

abbrev pub needs : ℕ → ℕ → ℕ → ℕ → Need
needs v e f k = record { vertices = v; edges = e; faces = f; face_keys = k }

-- one edge for each pair without an arc
unfoldable pub pairs_without : Mesh → List ℕ → ℕ
pairs_without m per = sum_below (λ i. cond (eqb (arc_at m per i) 0) 1 0) (length per)

unfoldable pub insert_need : Mesh → List ℕ → Need
insert_need m per = needs 0 (pairs_without m per) 1 1

unfoldable pub need : Mesh → Edit → List ℕ → Need
need m (VertexInsert p) keys = needs 1 0 0 0
need m (FaceInsert mark) keys = insert_need m (by_keys m keys)
need m (FaceRemove f) keys = needs 0 0 0 0
need m (FaceSplit f s d) keys = needs 0 (cond (eqb (arc_by_keys m s d) 0) 1 0) 1 2
need m (FacePoke f p) keys = let n = length (ring m (find_face m f)) in needs 1 n (n - 1) n
need m (FaceBridge f g) keys = let n = length (ring m (find_face m f)) in needs 0 n (n - 2) n
need m (FaceExtrude f move) keys = let n = length (ring m (find_face m f)) in needs n (2 * n) n (n + 1)
need m (ArcBridge a b c d) keys = insert_need m (corners m (arc_by_keys m a b) (arc_by_keys m c d))
need m (ArcExtrude s d move) keys = needs 2 3 1 1

-- free rows are not fewer than the need, and no key above 4,294,967,294 is needed
unfoldable pub rows_for : Mesh → Need → Bool
rows_for m n =
    leb n.vertices (count unused m.vertices)
    && (leb n.edges (count unused m.edges) && leb n.faces (count unused m.faces))

unfoldable pub keys_for : Mesh → Need → Bool
keys_for m n =
    leb (next_key m vertex_kind + n.vertices) key_limit
    && (leb (next_key m edge_kind + n.edges) key_limit && leb (next_key m face_kind + n.face_keys) key_limit)

unfoldable pub room_for : Mesh → Need → Bool
room_for m n = rows_for m n && keys_for m n

-- ---- the edit itself, on one set of tables

unfoldable pub work : Mesh → Edit → List ℕ → Step
work m (VertexInsert p) keys = step (new_vertex m p) (Key (next_key m vertex_kind))
work m (FaceInsert mark) keys = insert_work m (by_keys m keys) mark
work m (FaceRemove f) keys = remove_work m (find_face m f)
work m (FaceSplit f s d) keys = split_work m (find_face m f) (find_vertex m s) (find_vertex m d)
work m (FacePoke f p) keys = poke_work m (find_face m f) p
work m (FaceBridge f g) keys = bridge_work m (find_face m f) (find_face m g)
work m (FaceExtrude f move) keys = extrude_work m (find_face m f) move
work m (ArcBridge a b c d) keys = arc_bridge_work m (arc_by_keys m a b) (arc_by_keys m c d)
work m (ArcExtrude s d move) keys = arc_extrude_work m (arc_by_keys m s d) move

-- ---- a call, in order

-- what a call answers and leaves: the mesh with its counters, and both rooms
pub record Outcome : Type 0 where
  pub answer : Answer
  pub mesh : Mesh
  pub one : Room
  pub two : Room

abbrev pub outcome : Answer → Mesh → Room → Room → Outcome
outcome a m one two = record { answer = a; mesh = m; one = one; two = two }

-- what comes after 8: nothing yet
unfoldable pub last_step : Step → Step
last_step s = s

-- the Rust's refusals in mid-edit; 8 if the result would not be sound
unfoldable pub worked : Step → Step
worked s = cond (accepted s.answer) (cond (sound s.tables) (last_step s) (stops s.tables WouldBreak)) s

-- from the checks on: the answer, and the tables if it is accepted
unfoldable pub decided : Mesh → Edit → List ℕ → Step
decided m e keys =
    cond (not (given e keys)) (stops m Argument)
    (cond (not (accepted (checks m e keys))) (step m (checks m e keys))
    (cond (not (moves_finite m e)) (stops m Argument)
    (cond (not (room_for m (need m e keys))) (stops m NoRoom) (worked (work m e keys)))))

-- a refusal changes no mesh table and no counter
unfoldable pub kept : Mesh → Step → Mesh
kept m s = cond (accepted s.answer) s.tables m

unfoldable pub called : Mesh → Room → Room → Call → List ℕ → Outcome
called m one two c keys =
    cond (ready m one two)
    (outcome (decided m c.edit keys).answer (kept m (decided m c.edit keys)) (zeroed one) (zeroed two))
    (outcome (Refused Tables) m one two)

-- ---- the public calls

abbrev pub call : Edit → Call
call e = record { edit = e }

unfoldable pub vertex_insert : Mesh → Room → Room → Position → Outcome
vertex_insert m one two p = called m one two (call (VertexInsert p)) []

unfoldable pub face_insert : Mesh → Room → Room → List ℕ → ℕ → Outcome
face_insert m one two keys mark = called m one two (call (FaceInsert mark)) keys

unfoldable pub face_remove : Mesh → Room → Room → ℕ → Outcome
face_remove m one two f = called m one two (call (FaceRemove f)) []

unfoldable pub face_split : Mesh → Room → Room → ℕ → ℕ → ℕ → Outcome
face_split m one two f s d = called m one two (call (FaceSplit f s d)) []

unfoldable pub face_poke : Mesh → Room → Room → ℕ → Position → Outcome
face_poke m one two f p = called m one two (call (FacePoke f p)) []

unfoldable pub face_bridge : Mesh → Room → Room → ℕ → ℕ → Outcome
face_bridge m one two f g = called m one two (call (FaceBridge f g)) []

unfoldable pub face_extrude : Mesh → Room → Room → ℕ → Move → Outcome
face_extrude m one two f move = called m one two (call (FaceExtrude f move)) []

unfoldable pub arc_bridge_call : Mesh → Room → Room → ℕ → ℕ → ℕ → ℕ → Outcome
arc_bridge_call m one two a b c d = called m one two (call (ArcBridge a b c d)) []

unfoldable pub arc_extrude : Mesh → Room → Room → ℕ → ℕ → Move → Outcome
arc_extrude m one two s d move = called m one two (call (ArcExtrude s d move)) []

-- ---- the queries: they change nothing and need no room

-- 1 for unsound tables, 4 for an unknown face, else the number of arcs of its ring
unfoldable pub face_arity : Mesh → ℕ → Answer
face_arity m f =
    cond (not (sound m)) (Refused Tables)
    (cond (eqb (find_face m f) 0) (Refused TopologyNotFound) (Arity (length (ring m (find_face m f)))))

-- a vertex without a leading arc
abbrev pub leadless : List ℕ → Bool
leadless r = not (unused r) && eqb (get_or r 1 0) 0

-- no vertex is without one
unfoldable pub finished : Mesh → Bool
finished m = every (λ r. not (leadless r)) m.vertices

-- the check: 1 for unsound tables, or 3 if some vertex has no leading arc, or 0, in that order
unfoldable pub check_mesh : Mesh → Answer
check_mesh m = cond (not (sound m)) (Refused Tables) (cond (finished m) Done (Refused TopologyMalformed))
