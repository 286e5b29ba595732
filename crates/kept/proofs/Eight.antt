-- What stands behind answers 8 and 0 (Answers), in the words of the edits: a call never answers 8 if the edit, behind its tests, keeps the mesh sound;
-- and with 0 the mesh is what the edit made, and is sound.
use mathlib.Core.Path.{◌≡◌, refl, subst}
use mathlib.Core.Bool.{Bool, true, false, ◌&&◌, cond}
use mathlib.Core.List.{List}
use Prim.Native.Nat.{ℕ}
use lib.Dec.{T, T_not}
use lib.Ieee.Fits.{and_l}
use Rattle.rules.specs.declared.Edit.{Edit}
use Rattle.rules.specs.Answer.{Answer}
use Rattle.rules.specs.Mesh.{Mesh, Room}
use Rattle.rules.specs.Step.{Step, step, told, accepted, checked, answering}
use Rattle.rules.specs.Sound.{sound}
use Rattle.rules.specs.Call.{ready, room_enough, given, checks, moves_finite, room_for, need, work, called, call}
use Rattle.proved.specs.Demand.{Made, made}
use Rattle.kept.specs.Exactly.{AtWork}
use Rattle.kept.proofs.Answers.{eight-exactly, zero-exactly, stands-left}

-- an answer other than 8
abbrev pub Not8 : Answer → Type 0
Not8 a = (told a).number ≡ 8 → ⊥

-- what stands behind an edit's work: a sound mesh, finite numbers, checks that passed, finite moves, and a need that is met
pub record Behind (m : Mesh) (e : Edit) (keys : List ℕ) : Type 0 where
  pub was-sound : T (sound m)
  pub numbers-given : T (given e keys)
  pub checks-passed : T (accepted (checks m e keys))
  pub moves-finite : T (moves_finite m e)
  pub need-met : T (room_for m (need m e keys))

behind : (m : Mesh) (c : Made) → AtWork m c → Behind m c.edit c.keys
unfolding ready
behind m c h =
    let moves = h.at-need.at-moves in
    record {
      was-sound = and_l (sound m) (room_enough m c.one && room_enough m c.two) moves.at-checks.is-ready;
      numbers-given = moves.at-checks.fit;
      checks-passed = moves.checks-passed;
      moves-finite = h.at-need.moves-finite;
      need-met = h.need-met;
    }

-- the mesh is what the edit made, and is sound
pub record Accepted (m : Mesh) (e : Edit) (keys : List ℕ) (n : Mesh) : Type 0 where
  pub behind : Behind m e keys
  pub is : n ≡ (work m e keys).tables
  pub work-accepted : T (accepted (work m e keys).answer)
  pub now-sound : T (sound n)

module _ (m : Mesh) (e : Edit) (keys : List ℕ) where
  -- an edit that keeps the mesh sound, behind its tests, is never answered with 8
  pub never-8 : (one two : Room) → (Behind m e keys → T (sound (work m e keys).tables)) → Not8 (called m one two (call e) keys).answer
  never-8 one two h n =
      let c = made e keys one two in
      let z = (eight-exactly m c).0 n in
      T_not (sound (work m e keys).tables) z.not_sound (h (behind m c z.at-result.at-work))

  pub answer-zero : (one two : Room) → (told (called m one two (call e) keys).answer).number ≡ 0 → Accepted m e keys (called m one two (call e) keys).mesh
  answer-zero one two n =
      let c = made e keys one two in
      let z = (zero-exactly m c).0 n in
      record { behind = behind m c z.at-result.at-work; is = stands-left m c z; work-accepted = z.at-result.work-accepted; now-sound = rw (stands-left m c z) z.is-sound }

-- ---- parts of an edit that is accepted

-- an edit behind checks that is accepted passed them
pub checked-through : (n : Mesh) (c : Answer) (st : Step) → T (accepted (checked n c st).answer) → T (accepted c) × (checked n c st ≡ st)
unfolding checked
checked-through n c st h = go (accepted c) refl h
  where
    go : (b : Bool) → accepted c ≡ b → T (accepted (cond b st (step n c)).answer) → T b × (cond b st (step n c) ≡ st)
    go true e q = (tt, refl)
    go false e q = absurd (subst T e q)

-- and so did the part that an answer is put to
pub answered : (x : Answer) (t : Step) → T (accepted (answering x t).answer) → T (accepted t.answer) × ((answering x t).tables ≡ t.tables)
unfolding answering
answered x t h = go (accepted t.answer) refl h
  where
    go : (b : Bool) → accepted t.answer ≡ b → T (accepted (cond b (step t.tables x) t).answer) → T b × ((cond b (step t.tables x) t).tables ≡ t.tables)
    go true e q = (tt, refl)
    go false e q = absurd (subst T e q)
