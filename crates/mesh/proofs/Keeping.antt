-- Behind what is decided first the work by the code's makers is the work. And edits that always leave a sound mesh and refuse nothing in
-- mid-edit, a vertex insert and a face removal: the work is the whole call, and nothing is to be settled.
use mathlib.Core.Path.{◌≡◌, refl, ap, sym, ◌∙◌}
use mathlib.Core.Bool.{Bool, true, false, not, cond, false≢true}
use mathlib.Core.List.{List}
use Prim.Native.Nat.{ℕ}
use lib.Dec.{T}
use Rattle.rules.specs.Answer.{Answer}
use Rattle.rules.specs.Answer.{Done, Refused}
use Rattle.rules.specs.declared.Refusal.TheVariants.{Argument, NoRoom}
use Rattle.rules.specs.declared.Edit.{Edit}
use Rattle.rules.specs.declared.Edit.TheVariants.{VertexInsert, FaceInsert, FaceRemove, FaceSplit, FacePoke, FaceBridge, FaceExtrude, ArcBridge, ArcExtrude}
use Rattle.rules.specs.Mesh.{Mesh}
use Rattle.rules.specs.Step.{Step, accepted}
use Rattle.rules.specs.Edit.{remove_work}
use Rattle.rules.specs.Sound.{sound}
use Rattle.rules.specs.Call.{given, checks, moves_finite, room_for, need, work, decided}
use Rattle.makers.specs.Makers.{searching, work_by}
use Rattle.kept.specs.Frame.{ThreeCounters}
use Rattle.kept.proofs.Eight.{Behind}
use Rattle.kept.proofs.Searching.{searching-like}
use Rattle.kept.proofs.NeedSuffices.{need-suffices}
use Rattle.kept.proofs.Vertex.{vertex-insert-keeps}
use Rattle.kept.proofs.Remove.{face-remove-keeps}
use Rattle.order.specs.declared.settle.Way.{Way}
use Rattle.order.specs.declared.settle.Way.TheVariants.{Keeps, Near, Full}
use Rattle.order.specs.Transaction as T
use Rattle.order.specs.Transaction.{left, before_work, way_of}
use Rattle.order.proofs.Settling.{over-accepted, worked-done}
use Rattle.mesh.proofs.Calling.{performed}

so : (b : Bool) → T b → b ≡ true
so true t = refl
so false t = absurd t

-- no refusal before the work: each test has passed
passed : (a b c d : Bool) (x : Answer) → accepted x ≡ b → accepted (cond (not a) (Refused Argument) (cond (not (accepted x)) x (cond (not c) (Refused Argument) (cond (not d) (Refused NoRoom) Done)))) ≡ true → T a × T b × T c × T d
unfolding accepted
passed false b c d x q e = absurd (false≢true e)
passed true false c d x q e = absurd (false≢true (sym q ∙ (rw q at e)))
passed true true false d x q e = absurd (false≢true (rw q at e))
passed true true true false x q e = absurd (false≢true (rw q at e))
passed true true true true x q e = (tt, tt, tt, tt)

module _ (m : Mesh) (e : Edit) (keys : List ℕ) (k : ThreeCounters m) (s : sound m ≡ true) (a : accepted (before_work m e keys) ≡ true) where
  pub behind : Behind m e keys
  unfolding before_work
  behind =
      let p = passed (given e keys) (accepted (checks m e keys)) (moves_finite m e) (room_for m (need m e keys)) (checks m e keys) refl a in
      record { was-sound = rw s tt; numbers-given = p.0; checks-passed = p.1; moves-finite = p.2; need-met = p.3 }

  -- what the code makes by searching before it links is what the rules make
  pub by-rules : work_by searching m e keys ≡ work m e keys
  by-rules = (need-suffices m e keys k behind.was-sound behind.numbers-given behind.checks-passed behind.moves-finite behind.need-met).never-out searching searching-like

keeps : Way → Bool
keeps Keeps = true
keeps Near = false
keeps Full = false

near-not : Near ≡ Keeps → ⊥
unfolding keeps
near-not q = false≢true (ap keeps q)

-- what the work answers and leaves
keeping : (m : Mesh) (e : Edit) (keys : List ℕ) → ThreeCounters m → Behind m e keys → way_of e ≡ Keeps → (accepted (work m e keys).answer ≡ true) × T (sound (work m e keys).tables)
unfolding way_of work remove_work accepted
keeping m (VertexInsert p) keys k b q = (refl, vertex-insert-keeps m p keys k b)
keeping m (FaceInsert mark) keys k b q = absurd (near-not q)
keeping m (FaceRemove f) keys k b q = (refl, face-remove-keeps m f keys b)
keeping m (FaceSplit f s d) keys k b q = absurd (near-not q)
keeping m (FacePoke f p) keys k b q = absurd (near-not q)
keeping m (FaceBridge f g) keys k b q = absurd (near-not q)
keeping m (FaceExtrude f move) keys k b q = absurd (near-not q)
keeping m (ArcBridge x y z w) keys k b q = absurd (near-not q)
keeping m (ArcExtrude s d move) keys k b q = absurd (near-not q)

-- so the work is what is decided: t is what it left
pub in_place_lem : (m : Mesh) (e : Edit) (keys : List ℕ) (t : Step) → ThreeCounters m → sound m ≡ true → accepted (before_work m e keys) ≡ true → way_of e ≡ Keeps → t ≡ work_by searching m e keys → left t.answer t.tables ≡ T.over m (decided m e keys)
in_place_lem m e keys t k s a q et =
    let w = work m e keys in
    let h = keeping m e keys k (behind m e keys k s a) q in
    performed m e keys (left t.answer t.tables) a
    (ap (λ (z : Step). left z.answer z.tables) (et ∙ by-rules m e keys k s a) ∙ over-accepted m w h.0 ∙ ap (T.over m) (sym (worked-done w h.0 (so (sound w.tables) h.1))))
