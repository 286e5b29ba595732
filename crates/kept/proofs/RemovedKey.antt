-- "giving a removed face's key to the next one" is wrong: an accepted removal, split, poke, bridge or extrude leaves no record with the key of a face
-- that it removed, though it makes faces in the freed rows; and after any further calls there is none.
use Prim.Native.Nat.{ℕ, ◌-◌}
use native.Mathlib.Omega.{arith}
use mathlib.Core.Path.{◌≡◌, ap, sym, subst, ◌∙◌}
use mathlib.Core.List.{List, [], ◌∷◌}
use mathlib.Core.Logic.{inl, inr}
use lib.Dec.{T}
use Rattle.rules.specs.declared.Edit.{Edit}
use Rattle.rules.specs.Table.{Table, put_row}
use Rattle.rules.specs.Mesh.{Mesh, key_at, find_face, find_vertex, face_kind, next_key}
use Rattle.rules.specs.Edit.{remove, remove_work}
use Rattle.rules.specs.Step.{told}
use Rattle.rules.specs.Sound.{sound}
use Rattle.rules.specs.Call.{checks}
use Rattle.proved.specs.Facts.{SoundFacts, IsFace}
use Rattle.proved.specs.Demand.{Made, after_call, after_calls}
use Rattle.proved.proofs.Clauses.{facts}
use Rattle.kept.specs.Frame.{ThreeCounters}
use Rattle.makers.specs.Makers.{work_by}
use Rattle.kept.specs.Exactly.{answer}
use Rattle.kept.specs.Counters.{InUse, OldOrNew, KeysCounted, Gone, Removes, by-remove, by-split, by-poke, by-bridge, by-bridge-to, by-extrude}
use Rattle.kept.proofs.Cells.{put_row-other}
use Rattle.kept.proofs.Find.{find-back}
use Rattle.kept.proofs.Remove.{removed, face-was, remove-kept, remove-spares, remove-face, remove-rest, found-face}
use Rattle.kept.proofs.Split.{split-passed}
use Rattle.kept.proofs.Bridge.{faces-passed}
use Rattle.kept.proofs.Eight.{Behind, answer-zero}
use Rattle.kept.proofs.NeedSuffices.{need-suffices}
use Rattle.kept.proofs.Steps.{removes, splits-on, pokes-on, bridges-on, extrudes-on}
use Rattle.kept.proofs.CountersUp.{counters-rise}
use Rattle.kept.proofs.NeverTwice.{careful, careful-like, steps-counted, calls-counted}

-- a key that is gone stays so
gone-on : {m n : Mesh} (k : ℕ) → KeysCounted m n → Gone m k → Gone n k
gone-on {m} {n} k w g = record { was-given = omega (arith, g.was-given, w.counters.rise face_kind); not-in-use = λ i. no (w.faces k i) }
  where
    no : OldOrNew m.faces (next_key m face_kind) k → ⊥
    no (inl o) = g.not-in-use o
    no (inr l) = omega (arith, g.was-given)

-- ---- a removal

-- of a sound mesh's face: no other record has its key
module _ (m : Mesh) (s : SoundFacts m) (f : ℕ) (u : IsFace m f) where
  no_other : InUse (put_row m.faces f (0 ∷ 0 ∷ 0 ∷ [])) (key_at m.faces f) → ⊥
  no_other i =
      let w = face-was m s f u i.row i.in_use in
      let e = ap (λ (z : ℕ). z - 1) (put_row-other m.faces f (0 ∷ 0 ∷ 0 ∷ []) i.row 0 w.0) in
      w.0 (s.face-keys-differ i.row f w.1 u (sym e ∙ i.its-key))

  removed-gone : (k : ℕ) → key_at m.faces f ≡ k → Gone (remove m f) k
  removed-gone k e =
      record {
        was-given = rw ((remove-rest m s f u).1, ← e) (s.face-keys-below f u);
        not-in-use = λ i. no_other (subst (λ (z : ℕ). InUse (put_row m.faces f (0 ∷ 0 ∷ 0 ∷ [])) z) (sym e) (subst (λ (t : Table). InUse t k) (ap (λ (n : Mesh). n.faces) (removed m s f u).1) i));
      }

-- by its key
found-gone : (m : Mesh) → T (sound m) → (f : ℕ) → (find_face m f ≡ 0 → ⊥) → Gone (remove m (find_face m f)) f
found-gone m t f n = let h = find-back m.faces f n in removed-gone m (facts m t) (find_face m f) h.0 f h.1

-- ---- the edits, behind their tests

work-gone : (m : Mesh) (e : Edit) (keys : List ℕ) (k : ℕ) → Behind m e keys → Removes e k → Gone (work_by careful m e keys).tables k
unfolding work_by checks remove_work
work-gone m e keys k b (by-remove f) = found-gone m b.was-sound f (found-face (find_face m f) b.checks-passed)
work-gone m e keys k b (by-split f s d) =
    gone-on f (splits-on KeysCounted careful steps-counted m (find_face m f) (find_vertex m s) (find_vertex m d)) (found-gone m b.was-sound f (split-passed m (find_face m f) (find_vertex m s) (find_vertex m d) b.checks-passed).0)
work-gone m e keys k b (by-poke f p) =
    gone-on f (pokes-on KeysCounted careful steps-counted m (find_face m f) p) (found-gone m b.was-sound f (found-face (find_face m f) b.checks-passed))
work-gone m e keys k b (by-extrude f move) =
    gone-on f (extrudes-on KeysCounted careful steps-counted m (find_face m f) move) (found-gone m b.was-sound f (found-face (find_face m f) b.checks-passed))
work-gone m e keys k b (by-bridge f g) =
    let first = find_face m f in
    let second = find_face m g in
    gone-on f (bridges-on KeysCounted careful steps-counted m first second)
    (gone-on f (removes KeysCounted careful steps-counted (remove m first) second) (found-gone m b.was-sound f (faces-passed m first second b.checks-passed).first-known))
work-gone m e keys k b (by-bridge-to f g) =
    let first = find_face m f in
    let second = find_face m g in
    let s = facts m b.was-sound in
    let q = faces-passed m first second b.checks-passed in
    let u = (find-back m.faces f q.first-known).0 in
    let h = find-back m.faces g q.second-known in
    gone-on g (bridges-on KeysCounted careful steps-counted m first second)
    (removed-gone (remove m first) (remove-kept m s first u) second (remove-face m s first u second q.two h.0) g (ap (λ (z : ℕ). z - 1) ((remove-spares m s first u second q.two h.0).record-stays 0) ∙ h.1))

-- ---- calls

-- the key of a face that an accepted call removed is gone
pub removed-key-gone : (m : Mesh) → ThreeCounters m → (c : Made) (f : ℕ) → Removes c.edit f → (told (answer m c)).number ≡ 0 → Gone (after_call m c) f
unfolding after_call
removed-key-gone m k c f r h =
    let w = answer-zero m c.edit c.keys c.one c.two h in
    let b = w.behind in
    let n = need-suffices m c.edit c.keys k b.was-sound b.numbers-given b.checks-passed b.moves-finite b.need-met in
    rw (w.is, ← n.never-out careful careful-like) (work-gone m c.edit c.keys f b r)

-- and stays so, after any further calls
pub removed-key-never-again : (m : Mesh) → ThreeCounters m → (c : Made) (f : ℕ) → Removes c.edit f → (told (answer m c)).number ≡ 0 → (cs : List Made) → Gone (after_calls (after_call m c) cs) f
removed-key-never-again m k c f r h cs = gone-on f (calls-counted (after_call m c) (rw (counters-rise m c).as_many k) cs) (removed-key-gone m k c f r h)
