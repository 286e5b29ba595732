-- No call changes how many rows a table has. So from an empty mesh on, a call that is lent room for its tables never answers 1.
use Prim.Native.Nat.{ℕ, zero, suc, ◌-◌, ◌*◌, ◌≤◌}
use mathlib.Core.Path.{◌≡◌, refl, sym, ◌∙◌}
use mathlib.Core.Bool.{Bool, true, false, not, cond, true≢false}
use mathlib.Core.List.{List, [], ◌∷◌}
use lib.ListN.{length, get_or, set, length-set, length-replicate}
use lib.Dec.{eqb}
use borrow.Author.Tests.{le-leb}
use Rattle.rules.specs.declared.Position.{Position}
use Rattle.rules.specs.declared.Move.{Move}
use Rattle.rules.specs.declared.Refusal.TheVariants.{Tables, WouldBreak}
use Rattle.rules.specs.Answer.{Answer}
use Rattle.rules.specs.Answer.{Refused}
use Rattle.rules.specs.declared.Edit.{Edit}
use Rattle.rules.specs.declared.Edit.TheVariants.{VertexInsert, FaceInsert, FaceRemove, FaceSplit, FacePoke, FaceBridge, FaceExtrude, ArcBridge, ArcExtrude}
use Rattle.rules.specs.declared.Call.{Call}
use Rattle.rules.specs.Table.{Table, put, put_row, free_row, up_to}
use Rattle.rules.specs.Mesh.{Mesh, mesh, Room, vertex_limit, edge_limit, face_limit, find_arc, face, opposite}
use Rattle.rules.specs.Link.{put_vertex, new_vertex, connect, set_face, new_arc, new_edge, get_or_insert_edge, ring}
use Rattle.rules.specs.Step.{Step, step, stops, accepted, told, and_then, answering, checked}
use Rattle.rules.specs.Insert.{arc_at, edges_in, new_face, interior, exterior_at, exterior, put_face, insert_work, insert_face}
use Rattle.rules.specs.Edit.{remove, remove_work, split_work, poke_work, arc_bridge_work, arc_bridge, bridge_work}
use Rattle.rules.specs.Extrude.{Copies, copy_one, copies, extrude_work, arc_extrude_work}
use Rattle.rules.specs.Sound.{sound}
use Rattle.rules.specs.Call.{outcome, ready, room_enough, zeroed, given, checks, moves_finite, room_for, need, work, last_step, worked, decided, kept, called}
use Rattle.rules.specs.Script.{empty_room, empty_mesh}
use Rattle.proved.specs.Demand.{Made, after_call, after_calls, reached, SameRows, RoomFor}
use Rattle.proved.proofs.Reached.{reached-sound, one-for-rooms}

same : {m : Mesh} → SameRows m m
same = record { vertex-rows = refl; position-rows = refl; arc-rows = refl; edge-rows = refl; face-rows = refl }

-- first one change, then another
onto : {a b c : Mesh} → SameRows b c → SameRows a b → SameRows a c
onto q p =
    record { vertex-rows = q.vertex-rows ∙ p.vertex-rows; position-rows = q.position-rows ∙ p.position-rows; arc-rows = q.arc-rows ∙ p.arc-rows; edge-rows = q.edge-rows ∙ p.edge-rows; face-rows = q.face-rows ∙ p.face-rows }

either : {m : Mesh} (b : Bool) (x y : Mesh) → SameRows m x → SameRows m y → SameRows m (cond b x y)
either true x y p q = p
either false x y p q = q

abbrev itself : Mesh → Mesh
itself m = m

-- a loop over what holds a mesh
loop : {A : Type 0} (tables : A → Mesh) (g : ℕ → A → A) (n : ℕ) (a : A) → ((i : ℕ) (x : A) → SameRows (tables x) (tables (g i x))) → SameRows (tables a) (tables (up_to g n a))
unfolding up_to
loop tables g zero a h = same
loop tables g (suc n) a h = onto (h n (up_to g n a)) (loop tables g n a h)

-- ---- one write

set-rows {ℓ} : {A : Type ℓ} (b : Bool) (t : List A) (i : ℕ) (r : A) → length (cond b t (set t i r)) ≡ length t
set-rows true t i r = refl
set-rows false t i r = length-set t i r

put-rows : (t : Table) (l c v : ℕ) → length (put t l c v) ≡ length t
unfolding put
put-rows t l c v = set-rows (eqb l 0) t (l - 1) (set (get_or t (l - 1) []) c v)

put_row-rows {ℓ} : {A : Type ℓ} (t : List A) (l : ℕ) (r : A) → length (put_row t l r) ≡ length t
unfolding put_row
put_row-rows t l r = set-rows (eqb l 0) t (l - 1) r

with-arcs-rows : (m : Mesh) (t : Table) → length t ≡ length m.arcs → SameRows m (mesh m.vertices m.positions t m.edges m.faces m.counters)
with-arcs-rows m t e = record { vertex-rows = refl; position-rows = refl; arc-rows = e; edge-rows = refl; face-rows = refl }

-- ---- rules 1 to 4

new_vertex-rows : (m : Mesh) (p : Position) → SameRows m (new_vertex m p)
unfolding new_vertex put_vertex
new_vertex-rows m p = record { vertex-rows = put_row-rows m.vertices _ _; position-rows = put_row-rows m.positions _ _; arc-rows = refl; edge-rows = refl; face-rows = refl }

connect-rows : (m : Mesh) (x y : ℕ) → SameRows m (connect m x y)
unfolding connect
connect-rows m x y = with-arcs-rows m _ (put-rows (put m.arcs x 2 y) y 3 x ∙ put-rows m.arcs x 2 y)

set_face-rows : (m : Mesh) (x f : ℕ) → SameRows m (set_face m x f)
unfolding set_face
set_face-rows m x f = with-arcs-rows m _ (put-rows m.arcs x 4 f)

new_arc-rows : (m : Mesh) (a b e : ℕ) → SameRows m (new_arc m a b e)
unfolding new_arc
new_arc-rows m a b e = record { vertex-rows = put-rows m.vertices a 1 _; position-rows = refl; arc-rows = put_row-rows m.arcs _ _; edge-rows = refl; face-rows = refl }

new_edge-rows : (m : Mesh) (a b : ℕ) → SameRows m (new_edge m a b)
unfolding new_edge
new_edge-rows m a b =
    let e = free_row m.edges in
    let p = onto (new_arc-rows (new_arc m a b e) b a e) (new_arc-rows m a b e) in
    record { vertex-rows = p.vertex-rows; position-rows = p.position-rows; arc-rows = p.arc-rows; edge-rows = put_row-rows (new_arc (new_arc m a b e) b a e).edges e _ ∙ p.edge-rows; face-rows = p.face-rows }

get_or_insert_edge-rows : (m : Mesh) (a b : ℕ) → SameRows m (get_or_insert_edge m a b)
unfolding get_or_insert_edge
get_or_insert_edge-rows m a b = either (eqb (find_arc m a b) 0) (new_edge m a b) m (new_edge-rows m a b) same

-- ---- rule 5

edges_in-rows : (per : List ℕ) (m : Mesh) → SameRows m (edges_in per m)
unfolding edges_in
edges_in-rows per m = loop itself _ (length per) m (λ i a. get_or_insert_edge-rows a _ _)

new_face-rows : (m : Mesh) (x mark : ℕ) → SameRows m (new_face m x mark)
unfolding new_face
new_face-rows m x mark = record { vertex-rows = refl; position-rows = refl; arc-rows = refl; edge-rows = refl; face-rows = put_row-rows m.faces _ _ }

interior-rows : (per : List ℕ) (f : ℕ) (m : Mesh) → SameRows m (interior per f m)
unfolding interior
interior-rows per f m = loop itself _ (length per) m (λ i a. onto (set_face-rows _ _ f) (connect-rows a _ _))

exterior_at-rows : (per : List ℕ) (lists : List (List ℕ)) (i : ℕ) (m : Mesh) → SameRows m (exterior_at per lists i m)
unfolding exterior_at
exterior_at-rows per lists i m = either (eqb (face m (opposite m (arc_at m per i))) 0) _ m (onto (connect-rows _ _ _) (connect-rows m _ _)) same

put_face-rows : (m : Mesh) (per : List ℕ) (lists : List (List ℕ)) (mark : ℕ) → SameRows m (put_face m per lists mark)
unfolding put_face exterior
put_face-rows m per lists mark =
    onto (loop itself (exterior_at per lists) (length per) _ (exterior_at-rows per lists)) (onto (interior-rows per _ _) (onto (new_face-rows _ _ mark) (edges_in-rows per m)))

-- ---- steps

abbrev StepRows : Mesh → Step → Type 0
StepRows m s = SameRows m s.tables

either_step : {m : Mesh} (b : Bool) (x y : Step) → StepRows m x → StepRows m y → StepRows m (cond b x y)
either_step true x y p q = p
either_step false x y p q = q

checked-rows : (m n : Mesh) (a : Answer) (s : Step) → SameRows m n → StepRows m s → StepRows m (checked n a s)
unfolding checked
checked-rows m n a s p q = either_step (accepted a) s (step n a) q p

answering-rows : (m : Mesh) (a : Answer) (s : Step) → StepRows m s → StepRows m (answering a s)
unfolding answering
answering-rows m a s p = either_step (accepted s.answer) (step s.tables a) s p p

and_then-rows : (s : Step) (g : Mesh → Step) → StepRows s.tables (g s.tables) → StepRows s.tables (and_then s g)
unfolding and_then
and_then-rows s g p = either_step (accepted s.answer) (g s.tables) s p same

loop-steps : (g : ℕ → Mesh → Step) (n : ℕ) (s : Step) → ((i : ℕ) (a : Mesh) → StepRows a (g i a)) → StepRows s.tables (up_to (λ i t. and_then t (g i)) n s)
loop-steps g n s h = loop (λ t. t.tables) (λ i t. and_then t (g i)) n s (λ i t. and_then-rows t (g i) (h i t.tables))

insert_face-rows : (m : Mesh) (per : List ℕ) (mark : ℕ) → StepRows m (insert_face m per mark)
unfolding insert_face insert_work
insert_face-rows m per mark = checked-rows m m _ _ same (put_face-rows m per _ mark)

arc_bridge-rows : (m : Mesh) (x y : ℕ) → StepRows m (arc_bridge m x y)
unfolding arc_bridge arc_bridge_work insert_work
arc_bridge-rows m x y = checked-rows m m _ _ same (put_face-rows m _ _ 0)

-- ---- the edits

remove-rows : (m : Mesh) (f : ℕ) → SameRows m (remove m f)
unfolding remove
remove-rows m f =
    let p = loop itself (λ i a. set_face a (get_or (ring m f) i 0) 0) (length (ring m f)) m (λ i a. set_face-rows a _ 0) in
    record { vertex-rows = p.vertex-rows; position-rows = p.position-rows; arc-rows = p.arc-rows; edge-rows = p.edge-rows; face-rows = put_row-rows _ f _ ∙ p.face-rows }

copies-rows : (m : Mesh) (move : Move) (vs : List ℕ) → SameRows m (copies m move vs).tables
unfolding copies copy_one
copies-rows m move vs = loop {A = Copies} (λ c. c.tables) _ (length vs) (record { tables = m; links = [] }) (λ i c. new_vertex-rows c.tables _)

split_rows : (m : Mesh) (f s d : ℕ) → StepRows m (split_work m f s d)
unfolding split_work
split_rows m f s d =
    let p = remove-rows m f in
    checked-rows m (remove m f) _ _ p (checked-rows m (remove m f) _ _ p (onto (put_face-rows _ _ _ 0) (onto (put_face-rows (remove m f) _ _ 0) p)))

poke-rows : (m : Mesh) (f : ℕ) (p : Position) → StepRows m (poke_work m f p)
unfolding poke_work
poke-rows m f p =
    answering-rows m _ _ (onto (loop-steps _ _ _ (λ i a. insert_face-rows a _ _)) (onto (new_vertex-rows (remove m f) p) (remove-rows m f)))

bridge-rows : (m : Mesh) (f g : ℕ) → StepRows m (bridge_work m f g)
unfolding bridge_work
bridge-rows m f g =
    answering-rows m _ _ (onto (loop-steps _ _ _ (λ i a. arc_bridge-rows a _ _)) (onto (remove-rows (remove m f) g) (remove-rows m f)))

extrude-rows : (m : Mesh) (f : ℕ) (move : Move) → StepRows m (extrude_work m f move)
unfolding extrude_work
extrude-rows m f move =
    answering-rows m _ _ (onto (loop-steps _ _ _ (λ i a. insert_face-rows a _ 0)) (onto (insert_face-rows _ _ 0) (onto (copies-rows (remove m f) move _) (remove-rows m f))))

arc_extrude-rows : (m : Mesh) (x : ℕ) (move : Move) → StepRows m (arc_extrude_work m x move)
unfolding arc_extrude_work
arc_extrude-rows m x move =
    answering-rows m _ _ (onto (arc_bridge-rows _ x _) (onto (get_or_insert_edge-rows _ _ _) (onto (new_vertex-rows _ _) (new_vertex-rows m _))))

work-rows : (m : Mesh) (e : Edit) (keys : List ℕ) → StepRows m (work m e keys)
unfolding work insert_work remove_work arc_bridge_work
work-rows m (VertexInsert p) keys = new_vertex-rows m p
work-rows m (FaceInsert mark) keys = put_face-rows m _ _ mark
work-rows m (FaceRemove f) keys = remove-rows m _
work-rows m (FaceSplit f s d) keys = split_rows m _ _ _
work-rows m (FacePoke f p) keys = poke-rows m _ p
work-rows m (FaceBridge f g) keys = bridge-rows m _ _
work-rows m (FaceExtrude f move) keys = extrude-rows m _ move
work-rows m (ArcBridge a b c d) keys = put_face-rows m _ _ 0
work-rows m (ArcExtrude s d move) keys = arc_extrude-rows m _ move

-- ---- a call

decided-rows : (m : Mesh) (e : Edit) (keys : List ℕ) → StepRows m (decided m e keys)
unfolding decided worked last_step
decided-rows m e keys =
    let w = work-rows m e keys in
    let s = work m e keys in
    either_step (not (given e keys)) _ _ same
    (either_step (not (accepted (checks m e keys))) _ _ same
    (either_step (not (moves_finite m e)) _ _ same
    (either_step (not (room_for m (need m e keys))) _ _ same
    (either_step (accepted s.answer) _ s (either_step (sound s.tables) s (stops s.tables WouldBreak) w w) w))))

pub called-rows : (m : Mesh) (one two : Room) (c : Call) (keys : List ℕ) → SameRows m (called m one two c keys).mesh
unfolding called kept
called-rows m one two c keys = go (ready m one two)
  where
    s : Step
    s = decided m c.edit keys

    go : (b : Bool) → SameRows m (cond b (outcome s.answer (cond (accepted s.answer) s.tables m) (zeroed one) (zeroed two)) (outcome (Refused Tables) m one two)).mesh
    go true = either (accepted s.answer) s.tables m (decided-rows m c.edit keys) same
    go false = same

pub calls-rows : (m : Mesh) (calls : List Made) → SameRows m (after_calls m calls)
unfolding after_calls after_call
calls-rows m [] = same
calls-rows m (c ∷ cs) = onto (calls-rows (after_call m c) cs) (called-rows m _ _ _ _)

-- ---- from an empty mesh

module _ (v e f : ℕ) (calls : List Made) where
  reached-enough : (r : Room) → RoomFor v e f r → room_enough (reached v e f calls) r ≡ true
  unfolding reached room_enough empty_mesh empty_room
  reached-enough r h =
      let s = calls-rows (empty_mesh v e f) calls in
      rw (s.vertex-rows, s.position-rows, s.arc-rows, s.edge-rows, s.face-rows) (simp length-replicate (rw (le-leb v (length r.vertices) h.vertex-rows, le-leb v (length r.positions) h.position-rows, le-leb (2 * e) (length r.arcs) h.arc-rows, le-leb e (length r.edges) h.edge-rows, le-leb f (length r.faces) h.face-rows)))

  -- a call that is lent room for the empty mesh's tables never answers 1
  pub never-1 : v ≤ vertex_limit → e ≤ edge_limit → f ≤ face_limit → (one two : Room) → RoomFor v e f one → RoomFor v e f two → (c : Call) (keys : List ℕ) → (told (called (reached v e f calls) one two c keys).answer).number ≡ 1 → ⊥
  never-1 vs es fs one two p q c keys h =
      true≢false (sym (rw (reached-enough one p, reached-enough two q)) ∙ one-for-rooms (reached v e f calls) (reached-sound v e f vs es fs calls) one two c keys h)
