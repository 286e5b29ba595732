-- What holds of every public call, whatever it is lent and given: a refusal changes nothing and tells nothing but its number; both rooms
-- end zero, or are untouched where the answer is 1; unsound tables are refused by number, by every call; the check answers 1, 3 or 0 exactly
-- where it must; and no second outcome meets a call's statement. Assumes nothing.
use Prim.Native.Nat.{ℕ, zero, suc, ◌-◌}
use mathlib.Core.Path.{◌≡◌, refl, sym, ◌∙◌}
use mathlib.Core.Bool.{Bool, true, false, not, ◌||◌, cond, true≢false, false≢true}
use mathlib.Core.List.{List}
use mathlib.Core.Logic.{◌↔◌}
use lib.ListN.{length}
use lib.Dec.{eqb, ltb}
use native.Mathlib.Omega.{arith}
use Rattle.rules.specs.declared.Refusal.{Refusal}
use Rattle.rules.specs.declared.Refusal.TheVariants.{Tables, Argument, TopologyMalformed, TopologyNotFound, TopologyConflict, ArityNonUniform, NoRoom, WouldBreak, SamePlace}
use Rattle.rules.specs.Answer.{Answer}
use Rattle.rules.specs.Answer.{Key, Arc, Mark, Arity, Done, Refused}
use Rattle.rules.specs.declared.Edit.{Edit}
use Rattle.rules.specs.declared.Edit.TheVariants.{VertexInsert, FaceInsert, FaceRemove, FaceSplit, FacePoke, FaceBridge, FaceExtrude, ArcBridge, ArcExtrude}
use Rattle.rules.specs.declared.Call.{Call}
use Rattle.rules.specs.Table.{up_to, has, some_below}
use Rattle.rules.specs.Mesh.{Mesh, Room, face, mark}
use Rattle.rules.specs.Link.{ring, ring_vertices}
use Rattle.rules.specs.Step.{Step, step, stops, told, accepted, number_of, and_then, answering, checked}
use Rattle.rules.specs.Insert.{malformed, has_hair, has_face, conflict, insert_checks, insert_work, insert_face}
use Rattle.rules.specs.Edit.{known, remove_work, place, ring_distance, half, held_by_other, corners, split_checks, split_work, poke_work, arc_bridge_checks, arc_bridge_work, arc_bridge, bridge_checks, bridge_work}
use Rattle.rules.specs.Extrude.{extrude_work, arc_extrude_checks, arc_extrude_work}
use Rattle.rules.specs.Sound.{sound}
use Rattle.rules.specs.Call.{Outcome, outcome, ready, zeroed, given, checks, moves_finite, room_for, need, work, last_step, worked, decided, kept, called, face_arity, finished, check_mesh}

-- ---- answers

-- a refused answer tells nothing: key 0 (arity 0, mark 0, arc (0,0))
pub record Silent (a : Answer) : Type 0 where
  pub no_key : (told a).key ≡ 0
  pub no_source : (told a).source ≡ 0
  pub no-destination : (told a).destination ≡ 0
  pub no-mark : (told a).mark ≡ 0
  pub no-arity : (told a).arity ≡ 0

pub refused-silent : (a : Answer) → accepted a ≡ false → Silent a
unfolding accepted told
refused-silent (Key k) e = absurd (true≢false e)
refused-silent (Arc s d) e = absurd (true≢false e)
refused-silent (Mark n) e = absurd (true≢false e)
refused-silent (Arity n) e = absurd (true≢false e)
refused-silent Done e = absurd (true≢false e)
refused-silent (Refused r) e = record { no_key = refl; no_source = refl; no-destination = refl; no-mark = refl; no-arity = refl }

-- an accepted answer has number 0
pub accepted-zero : (a : Answer) → accepted a ≡ true → (told a).number ≡ 0
unfolding accepted told
accepted-zero (Key k) e = refl
accepted-zero (Arc s d) e = refl
accepted-zero (Mark n) e = refl
accepted-zero (Arity n) e = refl
accepted-zero Done e = refl
accepted-zero (Refused r) e = absurd (false≢true e)

-- and a refused one has not
pub refused-number : (r : Refusal) → number_of r ≡ 0 → ⊥
unfolding number_of
refused-number Tables e = omega arith
refused-number Argument e = omega arith
refused-number TopologyMalformed e = omega arith
refused-number TopologyNotFound e = omega arith
refused-number TopologyConflict e = omega arith
refused-number ArityNonUniform e = omega arith
refused-number NoRoom e = omega arith
refused-number WouldBreak e = omega arith
refused-number SamePlace e = omega arith

not-zero-refused : (a : Answer) → ((told a).number ≡ 0 → ⊥) → accepted a ≡ false
not-zero-refused a h = go (accepted a) refl
  where
    go : (b : Bool) → accepted a ≡ b → accepted a ≡ false
    go true e = absurd (h (accepted-zero a e))
    go false e = e

-- ---- answer 1 comes from the first test alone

abbrev Fair : Answer → Type 0
Fair a = (told a).number ≡ 1 → ⊥

fair-done : Fair Done
unfolding told
fair-done e = omega arith

fair-key : (k : ℕ) → Fair (Key k)
unfolding told
fair-key k e = omega arith

fair-mark : (n : ℕ) → Fair (Mark n)
unfolding told
fair-mark n e = omega arith

fair-arc : (s d : ℕ) → Fair (Arc s d)
unfolding told
fair-arc s d e = omega arith

-- the refusals that an edit may give
data Own : Refusal → Type 0 where
  own-argument : Own Argument
  own-malformed : Own TopologyMalformed
  own-not-found : Own TopologyNotFound
  own-conflict : Own TopologyConflict
  own-same-place : Own SamePlace
  own-non-uniform : Own ArityNonUniform
  own-no-room : Own NoRoom
  own-would-break : Own WouldBreak

fair-refusal : {r : Refusal} → Own r → Fair (Refused r)
unfolding told number_of
fair-refusal own-argument e = omega arith
fair-refusal own-malformed e = omega arith
fair-refusal own-not-found e = omega arith
fair-refusal own-conflict e = omega arith
fair-refusal own-same-place e = omega arith
fair-refusal own-non-uniform e = omega arith
fair-refusal own-no-room e = omega arith
fair-refusal own-would-break e = omega arith

fair-step : (b : Bool) (x y : Step) → Fair x.answer → Fair y.answer → Fair (cond b x y).answer
fair-step true x y p q = p
fair-step false x y p q = q

fair-answering : (a : Answer) (s : Step) → Fair a → Fair s.answer → Fair (answering a s).answer
unfolding answering
fair-answering a s p q = fair-step (accepted s.answer) (step s.tables a) s p q

fair-checked : (m : Mesh) (a : Answer) (s : Step) → Fair a → Fair s.answer → Fair (checked m a s).answer
unfolding checked
fair-checked m a s p q = fair-step (accepted a) s (step m a) q p

fair-loop : (f : ℕ → Mesh → Step) (n : ℕ) (s : Step) → ((i : ℕ) (m : Mesh) → Fair (f i m).answer) → Fair s.answer → Fair (up_to (λ i t. and_then t (f i)) n s).answer
unfolding up_to and_then
fair-loop f zero s h p = p
fair-loop f (suc n) s h p =
    fair-step (accepted (up_to (λ i t. and_then t (f i)) n s).answer) (f n (up_to (λ i t. and_then t (f i)) n s).tables) (up_to (λ i t. and_then t (f i)) n s) (h n (up_to (λ i t. and_then t (f i)) n s).tables) (fair-loop f n s h p)

-- ---- the checks

-- up to four refusals, one after the other
fair-four : (a b c d : Bool) {p q r s : Refusal} (x : Answer) → Own p → Own q → Own r → Own s → Fair x → Fair (cond a (Refused p) (cond b (Refused q) (cond c (Refused r) (cond d (Refused s) x))))
fair-four true b c d x p q r s h = fair-refusal p
fair-four false true c d x p q r s h = fair-refusal q
fair-four false false true d x p q r s h = fair-refusal r
fair-four false false false true x p q r s h = fair-refusal s
fair-four false false false false x p q r s h = h

fair-known : (l : ℕ) → Fair (known l)
unfolding known
fair-known l = fair-four (eqb l 0) false false false Done own-not-found own-not-found own-not-found own-not-found fair-done

fair-insert_checks : (m : Mesh) (names per : List ℕ) → Fair (insert_checks m names per)
unfolding insert_checks
fair-insert_checks m names per =
    fair-four (malformed names) (has per 0) (has_hair m per) (conflict m per) Done own-malformed own-not-found own-same-place own-conflict fair-done

fair-split_checks : (m : Mesh) (f s d : ℕ) → Fair (split_checks m f s d)
unfolding split_checks
fair-split_checks m f s d =
    let vs = ring_vertices m f in
    fair-four (eqb f 0) (eqb (place vs s) 0 || eqb (place vs d) 0) (ltb (ring_distance (length vs) (place vs s - 1) (place vs d - 1)) 2)
    (held_by_other m f (half m f s d) || held_by_other m f (half m f d s))
    Done own-not-found own-not-found own-malformed own-conflict fair-done

fair-arc_bridge_checks : (m : Mesh) (x y : ℕ) → Fair (arc_bridge_checks m x y)
unfolding arc_bridge_checks
fair-arc_bridge_checks m x y =
    let per = corners m x y in
    fair-four (eqb x 0 || eqb y 0) (some_below (has_face m per) (length per)) false false (insert_checks m per per) own-not-found own-conflict own-conflict own-conflict (fair-insert_checks m per per)

fair-bridge_checks : (m : Mesh) (f g : ℕ) → Fair (bridge_checks m f g)
unfolding bridge_checks
fair-bridge_checks m f g =
    fair-four (eqb f 0) (eqb g 0) (not (eqb (length (ring m f)) (length (ring m g)))) (eqb f g) Done own-not-found own-not-found own-non-uniform own-not-found fair-done

fair-arc_extrude_checks : (m : Mesh) (x : ℕ) → Fair (arc_extrude_checks m x)
unfolding arc_extrude_checks
fair-arc_extrude_checks m x =
    fair-four (eqb x 0) (not (eqb (face m x) 0)) false false Done own-not-found own-conflict own-conflict own-conflict fair-done

fair-checks : (m : Mesh) (e : Edit) (keys : List ℕ) → Fair (checks m e keys)
unfolding checks
fair-checks m (VertexInsert p) keys = fair-done
fair-checks m (FaceInsert mark) keys = fair-insert_checks m _ _
fair-checks m (FaceRemove f) keys = fair-known _
fair-checks m (FaceSplit f s d) keys = fair-split_checks m _ _ _
fair-checks m (FacePoke f p) keys = fair-known _
fair-checks m (FaceBridge f g) keys = fair-bridge_checks m _ _
fair-checks m (FaceExtrude f move) keys = fair-known _
fair-checks m (ArcBridge a b c d) keys = fair-arc_bridge_checks m _ _
fair-checks m (ArcExtrude s d move) keys = fair-arc_extrude_checks m _

-- ---- the edits

fair-insert_face : (m : Mesh) (per : List ℕ) (mark : ℕ) → Fair (insert_face m per mark).answer
unfolding insert_face insert_work
fair-insert_face m per mark = fair-checked m (insert_checks m per per) (insert_work m per mark) (fair-insert_checks m per per) (fair-key _)

fair-arc_bridge : (m : Mesh) (x y : ℕ) → Fair (arc_bridge m x y).answer
unfolding arc_bridge arc_bridge_work insert_work
fair-arc_bridge m x y = fair-checked m (arc_bridge_checks m x y) (arc_bridge_work m x y) (fair-arc_bridge_checks m x y) (fair-key _)

fair-work : (m : Mesh) (e : Edit) (keys : List ℕ) → Fair (work m e keys).answer
unfolding work insert_work remove_work split_work poke_work bridge_work extrude_work arc_bridge_work arc_extrude_work
fair-work m (VertexInsert p) keys = fair-key _
fair-work m (FaceInsert mark) keys = fair-key _
fair-work m (FaceRemove f) keys = fair-mark _
fair-work m (FaceSplit f s d) keys = fair-checked _ _ _ (fair-insert_checks _ _ _) (fair-checked _ _ _ (fair-insert_checks _ _ _) (fair-arc _ _))
fair-work m (FacePoke f p) keys = fair-answering _ _ (fair-key _) (fair-loop _ _ _ (λ i a. fair-insert_face a _ _) fair-done)
fair-work m (FaceBridge f g) keys = fair-answering _ _ (fair-key 0) (fair-loop _ _ _ (λ i a. fair-arc_bridge a _ _) fair-done)
fair-work m (FaceExtrude f move) keys = fair-answering _ _ (fair-key _) (fair-loop _ _ _ (λ i a. fair-insert_face a _ _) (fair-insert_face _ _ _))
fair-work m (ArcBridge a b c d) keys = fair-key _
fair-work m (ArcExtrude s d move) keys = fair-answering _ _ (fair-arc _ _) (fair-arc_bridge _ _ _)

fair-worked : (s : Step) → Fair s.answer → Fair (worked s).answer
unfolding worked last_step
fair-worked s h =
    fair-step (accepted s.answer) (cond (sound s.tables) s (stops s.tables WouldBreak)) s (fair-step (sound s.tables) s (stops s.tables WouldBreak) h (fair-refusal own-would-break)) h

-- the order of a call: four refusals before the work
fair-order : (a b c d : Bool) (w x y z s : Step) → Fair w.answer → Fair x.answer → Fair y.answer → Fair z.answer → Fair s.answer → Fair (cond a w (cond b x (cond c y (cond d z s)))).answer
fair-order true b c d w x y z s p q r t h = p
fair-order false true c d w x y z s p q r t h = q
fair-order false false true d w x y z s p q r t h = r
fair-order false false false true w x y z s p q r t h = t
fair-order false false false false w x y z s p q r t h = h

fair-decided : (m : Mesh) (e : Edit) (keys : List ℕ) → Fair (decided m e keys).answer
unfolding decided
fair-decided m e keys =
    fair-order (not (given e keys)) (not (accepted (checks m e keys))) (not (moves_finite m e)) (not (room_for m (need m e keys)))
    (stops m Argument) (step m (checks m e keys)) (stops m Argument) (stops m NoRoom) (worked (work m e keys))
    (fair-refusal own-argument) (fair-checks m e keys) (fair-refusal own-argument) (fair-refusal own-no-room) (fair-worked (work m e keys) (fair-work m e keys))

-- ---- every call

-- a refusal, that is, a number that is not 0: the mesh with its counters as it stood, and nothing told
pub record Nothing (m : Mesh) (o : Outcome) : Type 0 where
  pub mesh-stands : o.mesh ≡ m
  pub silent : Silent o.answer

-- both rooms zero in every row
pub record RoomsZero (one two : Room) (o : Outcome) : Type 0 where
  pub one-zero : o.one ≡ zeroed one
  pub two-zero : o.two ≡ zeroed two

-- everything that was lent, as it was
pub record Untouched (m : Mesh) (one two : Room) (o : Outcome) : Type 0 where
  pub mesh-stands : o.mesh ≡ m
  pub one-stands : o.one ≡ one
  pub two-stands : o.two ≡ two

-- what a call leaves, by its first test
abbrev left : Mesh → Room → Room → Step → Bool → Outcome
left m one two s b = cond b (outcome s.answer (kept m s) (zeroed one) (zeroed two)) (outcome (Refused Tables) m one two)

module _ (m : Mesh) (one two : Room) (s : Step) where
  kept-refused : accepted s.answer ≡ false → kept m s ≡ m
  unfolding kept
  kept-refused e = rw e

  left-nothing : (b : Bool) → ((told (left m one two s b).answer).number ≡ 0 → ⊥) → Nothing m (left m one two s b)
  left-nothing true h =
      let e = not-zero-refused s.answer h in
      record { mesh-stands = kept-refused e; silent = refused-silent s.answer e }
  left-nothing false h = record { mesh-stands = refl; silent = refused-silent (Refused Tables) (not-zero-refused (Refused Tables) h) }

  left-zero : (b : Bool) → ((told (left m one two s b).answer).number ≡ 1 → ⊥) → RoomsZero one two (left m one two s b)
  unfolding told number_of
  left-zero true h = record { one-zero = refl; two-zero = refl }
  left-zero false h = absurd (h refl)

  left-untouched : Fair s.answer → (b : Bool) → (told (left m one two s b).answer).number ≡ 1 → Untouched m one two (left m one two s b)
  left-untouched f true h = absurd (f h)
  left-untouched f false h = record { mesh-stands = refl; one-stands = refl; two-stands = refl }

one_told : (told (Refused Tables)).number ≡ 1
unfolding told number_of
one_told = refl

module _ (m : Mesh) (one two : Room) (c : Call) (keys : List ℕ) where
  pub refused-nothing : ((told (called m one two c keys).answer).number ≡ 0 → ⊥) → Nothing m (called m one two c keys)
  unfolding called
  refused-nothing h = left-nothing m one two (decided m c.edit keys) (ready m one two) h

  -- with every answer but 1, 0 among them, both rooms end zero
  pub rooms-end-zero : ((told (called m one two c keys).answer).number ≡ 1 → ⊥) → RoomsZero one two (called m one two c keys)
  unfolding called
  rooms-end-zero h = left-zero m one two (decided m c.edit keys) (ready m one two) h

  -- with 1 nothing is touched
  pub one-untouched : (told (called m one two c keys).answer).number ≡ 1 → Untouched m one two (called m one two c keys)
  unfolding called
  one-untouched h = left-untouched m one two (decided m c.edit keys) (fair-decided m c.edit keys) (ready m one two) h

  -- 1 is given exactly where a table is unsound or over the limit, or working room is too small
  pub one-exactly : ((told (called m one two c keys).answer).number ≡ 1) ↔ (ready m one two ≡ false)
  unfolding called
  one-exactly = (λ h. go (ready m one two) h, λ e. rw e one_told)
    where
      go : (b : Bool) → (told (left m one two (decided m c.edit keys) b).answer).number ≡ 1 → b ≡ false
      go true h = absurd (fair-decided m c.edit keys h)
      go false h = refl

-- ---- the check

module _ (m : Mesh) where
  check-unsound : sound m ≡ false → (told (check_mesh m)).number ≡ 1
  unfolding check_mesh told number_of
  check-unsound s = rw s

  check-unfinished : sound m ≡ true → finished m ≡ false → (told (check_mesh m)).number ≡ 3
  unfolding check_mesh told number_of
  check-unfinished s f = rw (s, f)

  check_done : sound m ≡ true → finished m ≡ true → (told (check_mesh m)).number ≡ 0
  unfolding check_mesh told number_of
  check_done s f = rw (s, f)

-- it answers 1 exactly where the tables are unsound; 3 exactly where they are sound and some vertex has no leading arc; 0 exactly where they
-- are sound and each has one
pub record CheckExactly (m : Mesh) : Type 0 where
  pub answers-1 : ((told (check_mesh m)).number ≡ 1) ↔ (sound m ≡ false)
  pub answers-3 : ((told (check_mesh m)).number ≡ 3) ↔ ((sound m ≡ true) × (finished m ≡ false))
  pub answers-0 : ((told (check_mesh m)).number ≡ 0) ↔ ((sound m ≡ true) × (finished m ≡ true))

pub check-exactly : (m : Mesh) → CheckExactly m
check-exactly m =
    record {
      answers-1 = (λ h. only_one (sound m) refl (finished m) refl h, check-unsound m);
      answers-3 = (λ h. only-three (sound m) refl (finished m) refl h, λ p. check-unfinished m p.0 p.1);
      answers-0 = (λ h. only_zero (sound m) refl (finished m) refl h, λ p. check_done m p.0 p.1);
    }
  where
    n : ℕ
    n = (told (check_mesh m)).number

    only_one : (s : Bool) → sound m ≡ s → (f : Bool) → finished m ≡ f → n ≡ 1 → s ≡ false
    only_one false p f q h = refl
    only_one true p false q h = absurd (omega (arith, h, check-unfinished m p q))
    only_one true p true q h = absurd (omega (arith, h, check_done m p q))

    only-three : (s : Bool) → sound m ≡ s → (f : Bool) → finished m ≡ f → n ≡ 3 → (s ≡ true) × (f ≡ false)
    only-three false p f q h = absurd (omega (arith, h, check-unsound m p))
    only-three true p false q h = (refl, refl)
    only-three true p true q h = absurd (omega (arith, h, check_done m p q))

    only_zero : (s : Bool) → sound m ≡ s → (f : Bool) → finished m ≡ f → n ≡ 0 → (s ≡ true) × (f ≡ true)
    only_zero false p f q h = absurd (omega (arith, h, check-unsound m p))
    only_zero true p false q h = absurd (omega (arith, h, check-unfinished m p q))
    only_zero true p true q h = (refl, refl)

-- ---- unsound tables are refused by number, by every call: any edit, the arity, the check

pub record UnsoundRefused (m : Mesh) : Type 0 where
  pub edits : (one two : Room) (c : Call) (keys : List ℕ) → (told (called m one two c keys).answer).number ≡ 1
  pub arity : (f : ℕ) → (told (face_arity m f)).number ≡ 1
  pub check : (told (check_mesh m)).number ≡ 1

module _ (m : Mesh) (s : sound m ≡ false) where
  not-ready : (one two : Room) → ready m one two ≡ false
  unfolding ready
  not-ready one two = rw s

  arity-unsound : (f : ℕ) → (told (face_arity m f)).number ≡ 1
  unfolding face_arity told number_of
  arity-unsound f = rw s

  pub unsound-refused : UnsoundRefused m
  unsound-refused =
      record {
        edits = λ one two c keys. (one-exactly m one two c keys).1 (not-ready one two);
        arity = arity-unsound;
        check = check-unsound m s;
      }

-- a statement is an equation with what is defined, so no second outcome meets it: for every call, and for every query
pub one_answer {ℓ} : {A : Type ℓ} (defined first second : A) → first ≡ defined → second ≡ defined → first ≡ second
one_answer defined first second p q = p ∙ sym q
