-- Rule 10 of document 01: extrude and arc extrude.
use Rattle.std.specs.Prelude.{ℕ, Bool, not, cond, List, [], ◌∷◌, ◌++◌, length, get_or, eqb}
use Rattle.rules.specs.declared.Position.{Position}
use Rattle.rules.specs.declared.Move.{Move}
use Rattle.rules.specs.Answer.{Answer}
use Rattle.rules.specs.Answer.{Key, Arc, Done, Refused}
use Rattle.rules.specs.declared.Refusal.TheVariants.{TopologyNotFound, TopologyConflict}
use Rattle.rules.specs.Table.{up_to, after, every}
use Rattle.rules.specs.Mesh.{Mesh, source, dest, face, find_arc, vertex_kind, face_kind, next_key}
use Rattle.rules.specs.Point.{position_at, moved, finite_position}
use Rattle.rules.specs.Link.{ring_vertices, free_vertex, new_vertex, get_or_insert_edge}
use Rattle.rules.specs.Step.{Step, and_then, answering}
use Rattle.rules.specs.Insert.{insert_face}
use Rattle.rules.specs.Edit.{remove, arc_bridge}

-- the position of the vertex v, moved
unfoldable pub moved_position : Mesh → Move → ℕ → Position
moved_position m move v = moved (position_at m.positions v) move

-- moved coordinates of these vertices are finite
unfoldable pub moved_finite : Mesh → Move → List ℕ → Bool
moved_finite m move vs = every (λ v. finite_position (moved_position m move v)) vs

-- ---- extrude

-- moved copies of vertices, made in order: the mesh with them, and their links
pub record Copies : Type 0 where
  pub tables : Mesh
  pub links : List ℕ

unfoldable pub copy_one : Move → ℕ → Copies → Copies
copy_one move v c =
    record { tables = new_vertex c.tables (moved_position c.tables move v); links = c.links ++ (free_vertex c.tables ∷ []) }

unfoldable pub copies : Mesh → Move → List ℕ → Copies
copies m move vs = up_to (λ i c. copy_one move (get_or vs i 0) c) (length vs) (record { tables = m; links = [] })

-- the wall of ring pair i: (a,b,d,c), c and d the copies of a and b
unfoldable pub wall : List ℕ → List ℕ → ℕ → List ℕ
wall vs ds i = get_or vs i 0 ∷ get_or vs (after (length vs) i) 0 ∷ get_or ds (after (length vs) i) 0 ∷ get_or ds i 0 ∷ []

-- remove; moved copies of the ring's vertices; top face; walls for each ring pair. Marks 0; the answer is the top face
unfoldable pub extrude_work : Mesh → ℕ → Move → Step
extrude_work m f move =
    let vs = ring_vertices m f in
    let made = copies (remove m f) move vs in
    let top = insert_face made.tables made.links 0 in
    answering (Key (next_key m face_kind))
    (up_to (λ i s. and_then s (λ a. insert_face a (wall vs made.links i) 0)) (length vs) top)

-- ---- arc extrude

-- unknown arc 4; an arc with a face is 5
unfoldable pub arc_extrude_checks : Mesh → ℕ → Answer
arc_extrude_checks m x =
    cond (eqb x 0) (Refused TopologyNotFound)
    (cond (not (eqb (face m x) 0)) (Refused TopologyConflict) Done)

-- c is b moved, d is a moved, made in that order; then edge (c,d), then arc bridge of (a,b) and (c,d); the answer is (c,d)
unfoldable pub arc_extrude_work : Mesh → ℕ → Move → Step
arc_extrude_work m x move =
    let c = free_vertex m in
    let m₁ = new_vertex m (moved_position m move (dest m x)) in
    let d = free_vertex m₁ in
    let m₂ = new_vertex m₁ (moved_position m₁ move (source m₁ x)) in
    let m₃ = get_or_insert_edge m₂ c d in
    answering (Arc (next_key m vertex_kind) (next_key m₁ vertex_kind)) (arc_bridge m₃ x (find_arc m₃ c d))
