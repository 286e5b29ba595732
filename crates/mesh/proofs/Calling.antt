-- What the transaction comes to, over plain values: what is decided and then worked, a part of a room, and the whole call.
use mathlib.Core.Path.{◌≡◌, refl, ap, sym, ◌∙◌}
use mathlib.Core.Bool.{Bool, true, false, not, ◌&&◌, cond, false≢true}
use lib.Dec.{leb}
use borrow.Author.Tests.{leb-true}
use mathlib.Core.List.{List, [], ◌∷◌, ◌++◌}
use lib.ListN.{length, take, drop, replicate, length-append, length-take, length-drop}
use Prim.Native.Nat.{ℕ, ◌-◌, ◌≤◌}
use native.Mathlib.Omega.{arith}
use Rattle.rules.specs.Answer.{Answer}
use Rattle.rules.specs.declared.Edit.{Edit}
use Rattle.rules.specs.Mesh.{Mesh, Room, room}
use Rattle.rules.specs.Step.{Step, step, stops, accepted}
use Rattle.rules.specs.Call.{zeroed, outcome, room_enough, given, checks, moves_finite, room_for, need, work, worked, decided, ready, called}
use Rattle.rules.specs.Sound.{sound}
use Rattle.rules.specs.Point.{zero_float}
use Rattle.rules.specs.Answer.{Done, Refused}
use Rattle.rules.specs.declared.Refusal.TheVariants.{Tables, Argument, NoRoom}
use Rattle.rules.specs.declared.Call.{Call}
use Rattle.rules.specs.declared.Edit.TheVariants.{FaceInsert}
use Rattle.checks.proofs.Pairs.{given-few}
use Rattle.order.proofs.Deciding.{not-given}
use Rattle.order.proofs.Settling.{over-refused}
use Rattle.order.specs.Transaction as T
use Rattle.order.specs.Transaction.{Left, left, SameSize, before_work}
use Rattle.mesh.specs.Near.{Fits}

argument-refused : accepted (Refused Argument) ≡ false
unfolding accepted
argument-refused = refl

-- ---- the order

-- one refusal after the other, and then the work, is what is decided
order : (a b c d : Bool) (x : Answer) (m : Mesh) (s : Step) → accepted x ≡ b →
    cond (not a) (stops m Argument) (cond (not (accepted x)) (step m x) (cond (not c) (stops m Argument) (cond (not d) (stops m NoRoom) s)))
    ≡ (let first = cond (not a) (Refused Argument) (cond (not (accepted x)) x (cond (not c) (Refused Argument) (cond (not d) (Refused NoRoom) Done))) in
    cond (accepted first) s (step m first))
unfolding accepted
order false b c d x m s e = refl
order true false c d x m s e = rw (e, e)
order true true false d x m s e = rw e
order true true true false x m s e = rw e
order true true true true x m s e = rw e

pub decided-is : (m : Mesh) (e : Edit) (keys : List ℕ) → decided m e keys ≡ cond (accepted (before_work m e keys)) (worked (work m e keys)) (step m (before_work m e keys))
unfolding decided before_work
decided-is m e keys = order (given e keys) (accepted (checks m e keys)) (moves_finite m e) (room_for m (need m e keys)) (checks m e keys) m (worked (work m e keys)) refl

-- behind what is decided first, the work is what is decided
pub performed : (m : Mesh) (e : Edit) (keys : List ℕ) (l : Left) → accepted (before_work m e keys) ≡ true → l ≡ T.over m (worked (work m e keys)) → l ≡ T.over m (decided m e keys)
performed m e keys l a el = el ∙ ap (T.over m) (sym (decided-is m e keys ∙ rw a))

pub not-performed : (m : Mesh) (e : Edit) (keys : List ℕ) → accepted (before_work m e keys) ≡ false → left (before_work m e keys) m ≡ T.over m (decided m e keys)
not-performed m e keys a = over-refused m (step m (before_work m e keys)) a ∙ ap (T.over m) (sym (decided-is m e keys ∙ rw a))

-- behind the first test a face insert has at most 64 keys
pub few-keys : (m : Mesh) (e : Edit) (keys : List ℕ) → accepted (before_work m e keys) ≡ true → (mark : ℕ) → e ≡ FaceInsert mark → length keys ≤ 64
few-keys m e keys a = given-few e keys (go (given e keys) refl)
  where
    go : (b : Bool) → given e keys ≡ b → given e keys ≡ true
    go true q = q
    go false q = absurd (false≢true (sym (ap accepted (sym (not-given m e keys q)) ∙ argument-refused) ∙ a))

-- ---- a part of a room, as long as the mesh

module _ {ℓ} {A : Type ℓ} where
  pub part-size : (m s : List A) → length m ≤ length s → length m ≡ length (take (length m - 0) s)
  part-size m s h = omega (arith, length-take (length m - 0) s)

  -- a part put back leaves a table as long as it was
  pub part-back : (n : ℕ) (new old : List A) → n ≤ length old → length new ≡ length (take (n - 0) old) → length (new ++ drop (n - 0) old) ≡ length old
  part-back n new old h e = omega (arith, length-append new (drop (n - 0) old), length-drop (n - 0) old, length-take (n - 0) old)

-- ---- the whole call

-- what zeroing leaves goes by the sizes alone
zeroed-sized : (r s : Room) → SameSize r s → zeroed r ≡ zeroed s
unfolding zeroed
zeroed-sized r s z =
    λ i. room (replicate (z.vertices i) (0 ∷ 0 ∷ [])) (replicate (z.positions i) (zero_float ∷ zero_float ∷ zero_float ∷ [])) (replicate (z.arcs i) (0 ∷ 0 ∷ 0 ∷ 0 ∷ 0 ∷ 0 ∷ [])) (replicate (z.edges i) (0 ∷ 0 ∷ 0 ∷ [])) (replicate (z.faces i) (0 ∷ 0 ∷ 0 ∷ []))

module _ (m : Mesh) (one two : Room) (c : Call) (keys : List ℕ) where
  pub called-not : ready m one two ≡ false → outcome (Refused Tables) m one two ≡ called m one two c keys
  unfolding called
  called-not e = rw e

  -- n is the mesh left, r and s the rooms after the work, o and t after they were zeroed
  pub called-done : (a : Answer) (n : Mesh) (r s o t : Room) → ready m one two ≡ true → left a n ≡ T.over m (decided m c.edit keys) → SameSize r one → SameSize s two → o ≡ zeroed r → t ≡ zeroed s → outcome a n o t ≡ called m one two c keys
  unfolding called T.over
  called-done a n r s o t e l zr zs eo et =
      (λ i. outcome (l i).answer (l i).mesh ((eo ∙ zeroed-sized r one zr) i) ((et ∙ zeroed-sized s two zs) i)) ∙ rw e

and-true : (a b : Bool) → (a && b) ≡ true → (a ≡ true) × (b ≡ true)
and-true true b e = (refl, e)
and-true false b e = absurd (false≢true e)

enough-fits : (m : Mesh) (r : Room) → room_enough m r ≡ true → (length m.vertices ≤ length r.vertices) × (length m.positions ≤ length r.positions) × (length m.arcs ≤ length r.arcs) × (length m.edges ≤ length r.edges) × (length m.faces ≤ length r.faces)
unfolding room_enough
enough-fits m r e =
    let a = and-true (leb (length m.vertices) (length r.vertices)) _ e in
    let b = and-true (leb (length m.positions) (length r.positions)) _ a.1 in
    let d = and-true (leb (length m.arcs) (length r.arcs)) _ b.1 in
    let f = and-true (leb (length m.edges) (length r.edges)) _ d.1 in
    (leb-true _ _ a.0, leb-true _ _ b.0, leb-true _ _ d.0, leb-true _ _ f.0, leb-true _ _ f.1)

pub ready-fits : (m : Mesh) (one two : Room) → ready m one two ≡ true → Fits (room m.vertices m.positions m.arcs m.edges m.faces) one
unfolding ready
ready-fits m one two e =
    let q = and-true (sound m) (room_enough m one && room_enough m two) e in
    let h = and-true (room_enough m one) (room_enough m two) q.1 in
    let a = enough-fits m one h.0 in
    record { vertices = a.0; positions = a.1; arcs = a.2; edges = a.3; faces = a.4 }

pub ready-sound : (m : Mesh) (one two : Room) → ready m one two ≡ true → sound m ≡ true
unfolding ready
ready-sound m one two e = (and-true (sound m) (room_enough m one && room_enough m two) e).0
