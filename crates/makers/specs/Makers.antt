-- The nine edits once more, with the making of a vertex, an edge and a face, and a face's exterior, left open: any four makers may stand in for
-- rules 1, 4 and 5. With the rules' own makers they are the edits (kept/proofs/Makers, `ruled-work`). What an edit does if a maker finds no row
-- or no key can so be asked: put in makers that do anything at all there, and see whether the edit is still the same. And what the code does,
-- which searches lists before it links, is the edits with the makers `searching`.
use Rattle.std.specs.Prelude.{ℕ, ◌+◌, ◌≤◌, ◌<◌, ◌≡◌, not, cond, List, [], ◌∷◌, ◌++◌, reverse, length, get_or, T, eqb}
use Rattle.rules.specs.declared.Position.{Position}
use Rattle.rules.specs.declared.Move.{Move}
use Rattle.rules.specs.declared.Edit.{Edit}
use Rattle.rules.specs.declared.Edit.TheVariants.{VertexInsert, FaceInsert, FaceRemove, FaceSplit, FacePoke, FaceBridge, FaceExtrude, ArcBridge, ArcExtrude}
use Rattle.rules.specs.Answer.{Key, Arc, Done}
use Rattle.rules.specs.Table.{Table, there, free_row, up_to, after}
use Rattle.rules.specs.Mesh.{Mesh, source, dest, face, leading, opposite, mark, key_at, key_limit, find_arc, find_vertex, find_face, vertex_kind, edge_kind, face_kind, next_key}
use Rattle.rules.specs.Link.{ring, ring_vertices, turn, free_vertex, new_vertex, new_arc, new_edge}
use Rattle.rules.specs.Step.{Step, step, and_then, answering, checked}
use Rattle.rules.specs.Insert.{arc_at, insert_checks, new_face, interior, exterior, lists_of}
use Rattle.rules.specs.Edit.{half, remove, remove_work, corners, arc_bridge_checks}
use Rattle.rules.specs.Extrude.{Copies, moved_position, wall}
use Rattle.rules.specs.Call.{by_keys, arc_by_keys}
use Rattle.makers.specs.Search.{arcs_on, held_in, sought_for, exterior_sought}

-- a maker of vertices at a position, of edges between two vertices, of faces with their first arc and mark; and of a perimeter's exterior, by
-- the lists of an older mesh, where these arcs of it were soon to be held
pub record Makers : Type 0 where
  pub vertex : Mesh → Position → Mesh
  pub edge : Mesh → ℕ → ℕ → Mesh
  pub face : Mesh → ℕ → ℕ → Mesh
  pub outside : Mesh → List ℕ → List ℕ → Mesh → Mesh

-- the exterior by the lists of an older mesh, as rule 5 has it, and by what was found in them while they were lists of the mesh
abbrev pub by_lists : Mesh → List ℕ → List ℕ → Mesh → Mesh
by_lists old soon per m = exterior per (lists_of old per) m

abbrev pub by_search : Mesh → List ℕ → List ℕ → Mesh → Mesh
by_search old soon per m = exterior_sought per (sought_for old soon per) m

-- those of the rules, and those of the code
abbrev pub ruled : Makers
ruled = record { vertex = new_vertex; edge = new_edge; face = new_face; outside = by_lists }

abbrev pub searching : Makers
searching = record { vertex = new_vertex; edge = new_edge; face = new_face; outside = by_search }

-- ---- room for one record

-- the table has a free row, and its kind a key
pub record RowAndKey (m : Mesh) (t : Table) (kind : ℕ) : Type 0 where
  pub a-row : 1 ≤ free_row t
  pub a_key : next_key m kind + 1 ≤ key_limit

-- an edge takes a row for itself and for each of its arcs
pub record EdgeRows (m : Mesh) (a b : ℕ) : Type 0 where
  pub itself : RowAndKey m m.edges edge_kind
  pub forth : 1 ≤ free_row m.arcs
  pub back : 1 ≤ free_row (new_arc m a b (free_row m.edges)).arcs

-- what was searched for in an older mesh tells of the mesh m: the perimeter's lists were lists of arcs that were there, each with its opposite,
-- which is its opposite still; and the arcs that counted as held are those that have a face now
pub record StillTells (old : Mesh) (soon per : List ℕ) (m : Mesh) : Type 0 where
  pub leads-there : (i : ℕ) → i < length per → (leading old (get_or per i 0) ≡ 0 → ⊥) → T (there old.arcs (leading old (get_or per i 0)))
  pub turns-there : (x : ℕ) → T (there old.arcs x) → (turn old x ≡ 0 → ⊥) → T (there old.arcs (turn old x))
  pub opposites-there : (x : ℕ) → T (there old.arcs x) → T (there old.arcs (opposite old x))
  pub opposites-stay : (x : ℕ) → T (there old.arcs x) → opposite m x ≡ opposite old x
  pub held : (x : ℕ) → T (there old.arcs x) → held_in old.arcs soon x ≡ not (eqb (face m x) 0)

-- makers that do as the rules wherever there is a row and a key, and where what was searched for still tells. Elsewhere they may do anything
pub record LikeRules (by : Makers) : Type 0 where
  pub vertex-same : (m : Mesh) (p : Position) → RowAndKey m m.vertices vertex_kind → by.vertex m p ≡ new_vertex m p
  pub edge_same : (m : Mesh) (a b : ℕ) → EdgeRows m a b → by.edge m a b ≡ new_edge m a b
  pub face-same : (m : Mesh) (x mark : ℕ) → RowAndKey m m.faces face_kind → by.face m x mark ≡ new_face m x mark
  pub outside-same : (old : Mesh) (soon per : List ℕ) (m : Mesh) → StillTells old soon per m → by.outside old soon per m ≡ exterior per (lists_of old per) m

-- ---- rules 4 and 5

unfoldable pub get_or_insert_edge_by : Makers → Mesh → ℕ → ℕ → Mesh
get_or_insert_edge_by by m a b = cond (eqb (find_arc m a b) 0) (by.edge m a b) m

unfoldable pub edges_up_to_by : Makers → List ℕ → ℕ → Mesh → Mesh
edges_up_to_by by per k m = up_to (λ i a. get_or_insert_edge_by by a (get_or per i 0) (get_or per (after (length per) i) 0)) k m

-- by the lists of an older mesh, where these arcs of it were soon to be held
unfoldable pub put_face_by : Makers → Mesh → List ℕ → Mesh → List ℕ → ℕ → Mesh
put_face_by by old soon m per mark =
    let m₁ = edges_up_to_by by per (length per) m in
    let f = free_row m₁.faces in
    by.outside old soon per (interior per f (by.face m₁ (arc_at m₁ per 0) mark))

unfoldable pub insert_work_by : Makers → Mesh → List ℕ → ℕ → Step
insert_work_by by m per mark = step (put_face_by by m (arcs_on m per) m per mark) (Key (next_key m face_kind))

unfoldable pub insert_face_by : Makers → Mesh → List ℕ → ℕ → Step
insert_face_by by m per mark = checked m (insert_checks m per per) (insert_work_by by m per mark)

-- ---- rules 6 to 9

unfoldable pub split_work_by : Makers → Mesh → ℕ → ℕ → ℕ → Step
split_work_by by m f s d =
    let left = half m f s d in
    let right = half m f d s in
    let m₁ = remove m f in
    let m₂ = put_face_by by m₁ (arcs_on m₁ left) m₁ left 0 in
    let m₃ = put_face_by by m₁ (arcs_on m₁ right ++ arcs_on m₁ left) m₂ right 0 in
    checked m₁ (insert_checks m₁ left left)
    (checked m₁ (insert_checks m₁ right right)
    (step m₃ (Arc (key_at m.vertices s) (key_at m.vertices d))))

unfoldable pub poke_work_by : Makers → Mesh → ℕ → Position → Step
poke_work_by by m f p =
    let vs = ring_vertices m f in
    let n = length vs in
    let m₁ = remove m f in
    let c = free_vertex m₁ in
    let start = step (by.vertex m₁ p) Done in
    answering (Key (next_key m vertex_kind))
    (up_to (λ i s. and_then s (λ a. insert_face_by by a (get_or vs i 0 ∷ get_or vs (after n i) 0 ∷ c ∷ []) (mark m f))) n start)

unfoldable pub arc_bridge_work_by : Makers → Mesh → ℕ → ℕ → Step
arc_bridge_work_by by m x y = insert_work_by by m (corners m x y) 0

unfoldable pub arc_bridge_by : Makers → Mesh → ℕ → ℕ → Step
arc_bridge_by by m x y = checked m (arc_bridge_checks m x y) (arc_bridge_work_by by m x y)

unfoldable pub bridge_work_by : Makers → Mesh → ℕ → ℕ → Step
bridge_work_by by m f g =
    let forth = ring m f in
    let back = reverse (ring m g) in
    let start = step (remove (remove m f) g) Done in
    answering (Key 0)
    (up_to (λ i s. and_then s (λ a. arc_bridge_by by a (get_or forth i 0) (get_or back i 0))) (length forth) start)

-- ---- rule 10

unfoldable pub copy_one_by : Makers → Move → ℕ → Copies → Copies
copy_one_by by move v c =
    record { tables = by.vertex c.tables (moved_position c.tables move v); links = c.links ++ (free_vertex c.tables ∷ []) }

unfoldable pub copies_by : Makers → Mesh → Move → List ℕ → Copies
copies_by by m move vs = up_to (λ i c. copy_one_by by move (get_or vs i 0) c) (length vs) (record { tables = m; links = [] })

unfoldable pub extrude_work_by : Makers → Mesh → ℕ → Move → Step
extrude_work_by by m f move =
    let vs = ring_vertices m f in
    let made = copies_by by (remove m f) move vs in
    let top = insert_face_by by made.tables made.links 0 in
    answering (Key (next_key m face_kind))
    (up_to (λ i s. and_then s (λ a. insert_face_by by a (wall vs made.links i) 0)) (length vs) top)

unfoldable pub arc_extrude_work_by : Makers → Mesh → ℕ → Move → Step
arc_extrude_work_by by m x move =
    let c = free_vertex m in
    let m₁ = by.vertex m (moved_position m move (dest m x)) in
    let d = free_vertex m₁ in
    let m₂ = by.vertex m₁ (moved_position m₁ move (source m₁ x)) in
    let m₃ = get_or_insert_edge_by by m₂ c d in
    answering (Arc (next_key m vertex_kind) (next_key m₁ vertex_kind)) (arc_bridge_by by m₃ x (find_arc m₃ c d))

-- ---- the nine edits

unfoldable pub work_by : Makers → Mesh → Edit → List ℕ → Step
work_by by m (VertexInsert p) keys = step (by.vertex m p) (Key (next_key m vertex_kind))
work_by by m (FaceInsert mark) keys = insert_work_by by m (by_keys m keys) mark
work_by by m (FaceRemove f) keys = remove_work m (find_face m f)
work_by by m (FaceSplit f s d) keys = split_work_by by m (find_face m f) (find_vertex m s) (find_vertex m d)
work_by by m (FacePoke f p) keys = poke_work_by by m (find_face m f) p
work_by by m (FaceBridge f g) keys = bridge_work_by by m (find_face m f) (find_face m g)
work_by by m (FaceExtrude f move) keys = extrude_work_by by m (find_face m f) move
work_by by m (ArcBridge a b c d) keys = arc_bridge_work_by by m (arc_by_keys m a b) (arc_by_keys m c d)
work_by by m (ArcExtrude s d move) keys = arc_extrude_work_by by m (arc_by_keys m s d) move
