-- An edit is made of steps: a vertex, an edge, a face is made, two arcs are linked, an arc's face is set, a face's record is dropped. What each
-- of these keeps, every edit keeps, in mid-edit too: for every mesh, every edit, all keys, and any makers.
use Prim.Native.Nat.{ℕ, zero, suc}
use mathlib.Core.Path.{◌≡◌, sym, subst}
use mathlib.Core.Bool.{Bool, true, false, cond}
use mathlib.Core.List.{List, [], ◌∷◌}
use lib.ListN.{length, get_or}
use lib.Dec.{eqb}
use Rattle.rules.specs.declared.Position.{Position}
use Rattle.rules.specs.declared.Move.{Move}
use Rattle.rules.specs.Answer.{Answer}
use Rattle.rules.specs.declared.Edit.{Edit}
use Rattle.rules.specs.declared.Edit.TheVariants.{VertexInsert, FaceInsert, FaceRemove, FaceSplit, FacePoke, FaceBridge, FaceExtrude, ArcBridge, ArcExtrude}
use Rattle.rules.specs.Table.{put_row, up_to}
use Rattle.rules.specs.Mesh.{Mesh, mesh, find_arc, face, opposite}
use Rattle.rules.specs.Link.{connect, set_face, ring}
use Rattle.rules.specs.Step.{Step, step, accepted, and_then, answering, checked}
use Rattle.rules.specs.Insert.{arc_at, interior, exterior_at, exterior, lists_of}
use Rattle.rules.specs.Edit.{remove, remove_work}
use Rattle.rules.specs.Extrude.{Copies}
use Rattle.makers.specs.Makers.{Makers, get_or_insert_edge_by, edges_up_to_by, put_face_by, insert_work_by, insert_face_by, split_work_by, poke_work_by, arc_bridge_work_by, arc_bridge_by, bridge_work_by, copy_one_by, copies_by, extrude_work_by, arc_extrude_work_by, work_by}

-- a mesh with a face's record dropped
abbrev pub dropped : Mesh → ℕ → Mesh
dropped m f = mesh m.vertices m.positions m.arcs m.edges (put_row m.faces f (0 ∷ 0 ∷ 0 ∷ [])) m.counters

-- R holds from before to after each step, from a mesh to itself, and through one mesh to the next
pub record KeptBySteps (R : Mesh → Mesh → Type 0) (by : Makers) : Type 0 where
  pub itself : (m : Mesh) → R m m
  pub through : (a b c : Mesh) → R a b → R b c → R a c
  pub vertex : (m : Mesh) (p : Position) → R m (by.vertex m p)
  pub edge : (m : Mesh) (a b : ℕ) → R m (by.edge m a b)
  pub face : (m : Mesh) (x mark : ℕ) → R m (by.face m x mark)
  pub link : (m : Mesh) (x y : ℕ) → R m (connect m x y)
  pub set-face : (m : Mesh) (x f : ℕ) → R m (set_face m x f)
  pub drop : (m : Mesh) (f : ℕ) → R m (dropped m f)
  -- the exterior is rule 5's, by lists
  pub outside : (old : Mesh) (soon per : List ℕ) (m : Mesh) → by.outside old soon per m ≡ exterior per (lists_of old per) m

module _ (R : Mesh → Mesh → Type 0) (by : Makers) (k : KeptBySteps R by) where
  -- ---- one step or none, and a loop over what holds a mesh

  either : {m : Mesh} (b : Bool) (x y : Mesh) → R m x → R m y → R m (cond b x y)
  either true x y p q = p
  either false x y p q = q

  loop : {A : Type 0} (tables : A → Mesh) (g : ℕ → A → A) (n : ℕ) (a : A) → ((i : ℕ) (x : A) → R (tables x) (tables (g i x))) → R (tables a) (tables (up_to g n a))
  unfolding up_to
  loop tables g zero a h = k.itself _
  loop tables g (suc n) a h = k.through _ _ _ (loop tables g n a h) (h n (up_to g n a))

  meshes : (g : ℕ → Mesh → Mesh) (n : ℕ) (m : Mesh) → ((i : ℕ) (a : Mesh) → R a (g i a)) → R m (up_to g n m)
  meshes g n m h = loop (λ a. a) g n m h

  -- ---- rule 5

  edge_in : (m : Mesh) (a b : ℕ) → R m (get_or_insert_edge_by by m a b)
  unfolding get_or_insert_edge_by
  edge_in m a b = either (eqb (find_arc m a b) 0) (by.edge m a b) m (k.edge m a b) (k.itself m)

  exterior-at : (per : List ℕ) (lists : List (List ℕ)) (i : ℕ) (m : Mesh) → R m (exterior_at per lists i m)
  unfolding exterior_at
  exterior-at per lists i m =
      either (eqb (face m (opposite m (arc_at m per i))) 0) _ m (k.through _ _ _ (k.link m _ _) (k.link _ _ _)) (k.itself m)

  border : (per : List ℕ) (lists : List (List ℕ)) (m : Mesh) → R m (exterior per lists m)
  unfolding exterior
  border per lists m = meshes (exterior_at per lists) (length per) m (exterior-at per lists)

  put-face : (m old : Mesh) (soon per : List ℕ) (mark : ℕ) → R m (put_face_by by old soon m per mark)
  unfolding put_face_by edges_up_to_by interior
  put-face m old soon per mark =
      k.through _ _ _ (meshes _ (length per) m (λ i a. edge_in a _ _))
      (k.through _ _ _ (k.face _ _ mark)
      (k.through _ _ _ (meshes _ (length per) _ (λ i a. k.through _ _ _ (k.link a _ _) (k.set-face _ _ _)))
      (subst (R _) (sym (k.outside old soon per _)) (border per (lists_of old per) _))))

  -- ---- an edit in progress

  abbrev Leaves : Mesh → Step → Type 0
  Leaves m s = R m s.tables

  either_step : {m : Mesh} (b : Bool) (x y : Step) → Leaves m x → Leaves m y → Leaves m (cond b x y)
  either_step true x y p q = p
  either_step false x y p q = q

  behind-checks : (m n : Mesh) (a : Answer) (s : Step) → R m n → Leaves m s → Leaves m (checked n a s)
  unfolding checked
  behind-checks m n a s p q = either_step (accepted a) s (step n a) q p

  with-answer : (m : Mesh) (a : Answer) (s : Step) → Leaves m s → Leaves m (answering a s)
  unfolding answering
  with-answer m a s p = either_step (accepted s.answer) (step s.tables a) s p p

  part-after : (s : Step) (part : Mesh → Step) → Leaves s.tables (part s.tables) → Leaves s.tables (and_then s part)
  unfolding and_then
  part-after s part p = either_step (accepted s.answer) (part s.tables) s p (k.itself _)

  parts : (part : ℕ → Mesh → Step) (n : ℕ) (s : Step) → ((i : ℕ) (a : Mesh) → Leaves a (part i a)) → Leaves s.tables (up_to (λ i t. and_then t (part i)) n s)
  parts part n s h = loop (λ t. t.tables) (λ i t. and_then t (part i)) n s (λ i t. part-after t (part i) (h i t.tables))

  insert-face : (m : Mesh) (per : List ℕ) (mark : ℕ) → Leaves m (insert_face_by by m per mark)
  unfolding insert_face_by insert_work_by
  insert-face m per mark = behind-checks m m _ _ (k.itself m) (put-face m m _ per mark)

  bridge-arcs : (m : Mesh) (x y : ℕ) → Leaves m (arc_bridge_by by m x y)
  unfolding arc_bridge_by arc_bridge_work_by insert_work_by
  bridge-arcs m x y = behind-checks m m _ _ (k.itself m) (put-face m m _ _ 0)

  -- ---- the edits: those that remove a face, from its removal on

  pub removes : (m : Mesh) (f : ℕ) → R m (remove m f)
  unfolding remove
  removes m f = k.through _ _ _ (meshes (λ i a. set_face a (get_or (ring m f) i 0) 0) (length (ring m f)) m (λ i a. k.set-face a _ 0)) (k.drop _ f)

  pub splits-on : (m : Mesh) (f s d : ℕ) → Leaves (remove m f) (split_work_by by m f s d)
  unfolding split_work_by
  splits-on m f s d =
      let a = remove m f in
      behind-checks a a _ _ (k.itself a) (behind-checks a a _ _ (k.itself a) (k.through _ _ _ (put-face a a _ _ 0) (put-face _ a _ _ 0)))

  pub pokes-on : (m : Mesh) (f : ℕ) (p : Position) → Leaves (remove m f) (poke_work_by by m f p)
  unfolding poke_work_by
  pokes-on m f p = with-answer (remove m f) _ _ (k.through _ _ _ (k.vertex (remove m f) p) (parts _ _ _ (λ i a. insert-face a _ _)))

  pub bridges-on : (m : Mesh) (f g : ℕ) → Leaves (remove (remove m f) g) (bridge_work_by by m f g)
  unfolding bridge_work_by
  bridges-on m f g = with-answer (remove (remove m f) g) _ _ (parts _ _ _ (λ i a. bridge-arcs a _ _))

  copies-made : (m : Mesh) (move : Move) (vs : List ℕ) → R m (copies_by by m move vs).tables
  unfolding copies_by copy_one_by
  copies-made m move vs = loop {A = Copies} (λ c. c.tables) _ (length vs) (record { tables = m; links = [] }) (λ i c. k.vertex c.tables _)

  pub extrudes-on : (m : Mesh) (f : ℕ) (move : Move) → Leaves (remove m f) (extrude_work_by by m f move)
  unfolding extrude_work_by
  extrudes-on m f move =
      with-answer (remove m f) _ _ (k.through _ _ _ (copies-made (remove m f) move _) (k.through _ _ _ (insert-face _ _ 0) (parts _ _ _ (λ i a. insert-face a _ 0))))

  arc-extrudes : (m : Mesh) (x : ℕ) (move : Move) → Leaves m (arc_extrude_work_by by m x move)
  unfolding arc_extrude_work_by
  arc-extrudes m x move =
      with-answer m _ _ (k.through _ _ _ (k.vertex m _) (k.through _ _ _ (k.vertex _ _) (k.through _ _ _ (edge_in _ _ _) (bridge-arcs _ x _))))

  pub work-keeps : (m : Mesh) (e : Edit) (keys : List ℕ) → R m (work_by by m e keys).tables
  unfolding work_by insert_work_by remove_work arc_bridge_work_by
  work-keeps m (VertexInsert p) keys = k.vertex m p
  work-keeps m (FaceInsert mark) keys = put-face m m _ _ mark
  work-keeps m (FaceRemove f) keys = removes m _
  work-keeps m (FaceSplit f s d) keys = k.through _ _ _ (removes m _) (splits-on m _ _ _)
  work-keeps m (FacePoke f p) keys = k.through _ _ _ (removes m _) (pokes-on m _ p)
  work-keeps m (FaceBridge f g) keys = k.through _ _ _ (removes m _) (k.through _ _ _ (removes _ _) (bridges-on m _ _))
  work-keeps m (FaceExtrude f move) keys = k.through _ _ _ (removes m _) (extrudes-on m _ move)
  work-keeps m (ArcBridge a b c d) keys = put-face m m _ _ 0
  work-keeps m (ArcExtrude s d move) keys = arc-extrudes m _ move
