-- An edit in room: that the rings near it tell whether its result is sound, which rows it can have changed, and what is settled in the end.
use Prim.Native.Nat.{ℕ}
use mathlib.Core.Path.{◌≡◌, ap, sym, subst, ◌∙◌}
use mathlib.Core.Bool.{true, false}
use mathlib.Core.List.{List}
use Rattle.std.proofs.Common.{Option, Some, None, IfSome}
use Rattle.rules.specs.Answer.{Answer}
use Rattle.rules.specs.declared.Edit.{Edit}
use Rattle.rules.specs.Mesh.{Mesh, mesh, Room, room, face_kind, next_key}
use Rattle.rules.specs.Step.{Step, accepted}
use Rattle.rules.specs.Sound.{sound}
use Rattle.rules.specs.Call.{work, worked}
use Rattle.proved.specs.Facts.{SoundFacts}
use Rattle.proved.proofs.Rows.{true-T}
use Rattle.proved.proofs.Clauses.{facts}
use Rattle.makers.specs.Makers.{searching, work_by}
use Rattle.kept.specs.Local.{Local, Reach}
use Rattle.kept.proofs.Local.{local-wider}
use Rattle.kept.proofs.EditReach.{edit-reach}
use Rattle.pairs.specs.Near.{is_marked}
use Rattle.nearby.specs.Rows.{SixCells, DifferNear}
use Rattle.nearby.proofs.Reached.{covers, others}
use Rattle.nearby.proofs.RingsTell.{rings-tell}
use Rattle.order.specs.Transaction as T
use Rattle.order.specs.Transaction.{left, RingsTell}
use Rattle.order.proofs.Settling.{copied-over, left_alone}
use Rattle.mesh.specs.Near.{Begun, NearListed}
use Rattle.mesh.proofs.Keeping.{behind, by-rules}

module _ (m : Mesh) (e : Edit) (keys : List ℕ) (b : Begun m e keys) (list : List ℕ) (near : NearListed m e keys list) where
  s : SoundFacts m
  s = facts m (true-T b.whole)

  reach : Reach m e keys
  reach =
      let h = behind m e keys b.three b.whole b.passed in
      edit-reach m e keys b.three h.was-sound h.numbers-given h.checks-passed h.moves-finite h.need-met

  local : Local (λ v. is_marked near.seen v ≡ true) m (work m e keys).tables
  local = local-wider reach.local near.marked

  -- t is what the work told and left
  module _ (t : Step) (is : t ≡ work m e keys) where
    -- the rings near the edit tell whether that is sound
    listed-say : accepted t.answer ≡ true → RingsTell t.tables (Some list) (next_key m face_kind)
    listed-say a =
        rw is
        (reach.base.sizes.face-rows, rings-tell m (work m e keys).tables near.seen list s reach.base local (reach.faces (true-T (ap (λ (z : Step). accepted z.answer) (sym is) ∙ a))) (covers m near.seen list s near.listed))

    -- and of the arcs no row has changed but those near it
    listed-changed : SixCells m.arcs → SixCells t.tables.arcs → DifferNear t.tables.arcs m.arcs (Some list) t.tables.edges m.edges
    listed-changed p q =
        subst (λ (z : Step). DifferNear z.tables.arcs m.arcs (Some list) z.tables.edges m.edges) (sym is) (others m (work m e keys).tables near.seen s reach.base local p (subst (λ (z : Step). SixCells z.tables.arcs) is q) list near.listed)

-- where none are listed, nothing is said of them
pub rings-say : (m : Mesh) (e : Edit) (keys : List ℕ) → Begun m e keys → (near : Option (List ℕ)) → IfSome near (NearListed m e keys) → (t : Step) → t ≡ work m e keys → accepted t.answer ≡ true → RingsTell t.tables near (next_key m face_kind)
rings-say m e keys b None l t is a = tt
rings-say m e keys b (Some list) l t is a = listed-say m e keys b list l t is a

pub changed-near : (m : Mesh) (e : Edit) (keys : List ℕ) → Begun m e keys → (near : Option (List ℕ)) → IfSome near (NearListed m e keys) → (t : Step) → t ≡ work m e keys → SixCells m.arcs → SixCells t.tables.arcs → DifferNear t.tables.arcs m.arcs near t.tables.edges m.edges
changed-near m e keys b None l t is p q = tt
changed-near m e keys b (Some list) l t is p q = listed-changed m e keys b list l t is p q

-- ---- what is settled: t is what the work told and left in a copy of the mesh, x what is answered

module _ (m : Mesh) (e : Edit) (keys : List ℕ) (t : Step) (is : t ≡ work m e keys) (x : Answer) (settled : x ≡ (worked t).answer) where
  -- accepted: y is the mesh with that copied over
  pub done : accepted x ≡ true → (y : Mesh) → y ≡ t.tables → left x y ≡ T.over m (worked (work m e keys))
  done a y over = ap (left x) over ∙ copied-over m t.tables t.answer x settled a ∙ ap (λ (z : Step). T.over m (worked z)) is

  -- refused: the mesh has not been touched
  pub not_done : accepted x ≡ false → left x m ≡ T.over m (worked (work m e keys))
  not_done a = left_alone m t.tables t.answer x settled a ∙ ap (λ (z : Step). T.over m (worked z)) is

-- the work by the code's makers on a copy of the mesh is the work on the mesh
pub on-copy : (m : Mesh) (r : Room) (e : Edit) (keys : List ℕ) (t : Step) → Begun m e keys → r ≡ room m.vertices m.positions m.arcs m.edges m.faces → t ≡ work_by searching (mesh r.vertices r.positions r.arcs r.edges r.faces m.counters) e keys → t ≡ work m e keys
on-copy m r e keys t b er et =
    et ∙ ap (λ (z : Room). work_by searching (mesh z.vertices z.positions z.arcs z.edges z.faces m.counters) e keys) er
    ∙ by-rules m e keys b.three b.whole b.passed
