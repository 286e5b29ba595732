-- Each answer number is given exactly when document 01 says, for every call: any of the nine edits, any arguments and keys, any lent tables and
-- rooms, sound or not. "Exactly when" goes both ways: what is said holds wherever the number is given, and the number is given wherever it holds.
use Prim.Native.Nat.{ℕ}
use mathlib.Core.Path.{◌≡◌, refl, ap, sym, subst, ◌∙◌}
use mathlib.Core.Bool.{Bool, true, false, not, cond}
use mathlib.Core.List.{List}
use mathlib.Core.Logic.{◌↔◌, ◌⊎◌, inl, inr}
use lib.Dec.{T, eqb}
use Rattle.rules.specs.declared.Edit.{Edit}
use Rattle.rules.specs.declared.Refusal.{Refusal}
use Rattle.rules.specs.declared.Refusal.TheVariants.{Tables, Argument, TopologyMalformed, TopologyNotFound, TopologyConflict, ArityNonUniform, NoRoom, WouldBreak, SamePlace}
use Rattle.rules.specs.Answer.{Answer}
use Rattle.rules.specs.Answer.{Key, Arc, Mark, Arity, Done, Refused}
use Rattle.rules.specs.Mesh.{Mesh, Room}
use Rattle.rules.specs.Step.{Step, step, stops, told, accepted, number_of}
use Rattle.rules.specs.Sound.{sound}
use Rattle.rules.specs.Call.{Outcome, outcome, ready, zeroed, given, checks, moves_finite, need, room_for, work, last_step, worked, decided, kept, call, called, vertex_insert, face_insert, face_remove, face_split, face_poke, face_bridge, face_extrude, arc_bridge_call, arc_extrude}
use Rattle.rules.proofs.Promises.{refused-number, accepted-zero}
use Rattle.proved.specs.Demand.{Made}
use Rattle.proved.proofs.Rows.{T_true, true-T, T_false}
use Rattle.kept.specs.Exactly.{answer, PublicAnswers, AtChecks, AtMoves, AtNeed, AtWork, AtResult, NotFit, NotFinite, NeedNotMet, ResultBreaks, ResultStands, ByRust, by-checks, in-mid-edit, InMidEdit, three, four, five, thirteen, OfChecks, as-in-mid-edit, six, Uneven, GivenWhen}
use Rattle.kept.proofs.Refusals.{Says, refusal-says, refusals-of-checks, refusals-of-work}

-- ---- a refusal and its number

refusal_of : ℕ → Refusal
refusal_of n =
    cond (eqb n 1) Tables
    (cond (eqb n 2) Argument
    (cond (eqb n 3) TopologyMalformed
    (cond (eqb n 4) TopologyNotFound (cond (eqb n 5) TopologyConflict (cond (eqb n 6) ArityNonUniform (cond (eqb n 7) NoRoom (cond (eqb n 8) WouldBreak SamePlace)))))))

refusal-back : (r : Refusal) → refusal_of (number_of r) ≡ r
unfolding number_of refusal_of
refusal-back Tables = refl
refusal-back Argument = refl
refusal-back TopologyMalformed = refl
refusal-back TopologyNotFound = refl
refusal-back TopologyConflict = refl
refusal-back ArityNonUniform = refl
refusal-back NoRoom = refl
refusal-back WouldBreak = refl
refusal-back SamePlace = refl

-- an answer with a refusal's number is that refusal
answer-of : (a : Answer) (r : Refusal) → (told a).number ≡ number_of r → a ≡ Refused r
unfolding told
answer-of (Key k) r e = absurd (refused-number r (sym e))
answer-of (Arc s d) r e = absurd (refused-number r (sym e))
answer-of (Mark n) r e = absurd (refused-number r (sym e))
answer-of (Arity n) r e = absurd (refused-number r (sym e))
answer-of Done r e = absurd (refused-number r (sym e))
answer-of (Refused q) r e = ap Refused (sym (refusal-back q) ∙ ap refusal_of e ∙ refusal-back r)

number-told : (r : Refusal) → (told (Refused r)).number ≡ number_of r
unfolding told
number-told r = refl

-- ---- what is said of an answer, by whether it is accepted

says-accepted : (D : Type 0) (P : Refusal → Type 0) (a : Answer) → accepted a ≡ true → D → Says D P a
unfolding Says accepted
says-accepted D P (Key k) e d = d
says-accepted D P (Arc s t) e d = d
says-accepted D P (Mark n) e d = d
says-accepted D P (Arity n) e d = d
says-accepted D P Done e d = d
says-accepted D P (Refused r) e d = absurd (true-T e)

says-refused : (D : Type 0) (P : Refusal → Type 0) (a : Answer) → accepted a ≡ false → ((r : Refusal) → a ≡ Refused r → P r) → Says D P a
unfolding Says accepted
says-refused D P (Key k) e h = absurd (subst T e tt)
says-refused D P (Arc s t) e h = absurd (subst T e tt)
says-refused D P (Mark n) e h = absurd (subst T e tt)
says-refused D P (Arity n) e h = absurd (subst T e tt)
says-refused D P Done e h = absurd (subst T e tt)
says-refused D P (Refused r) e h = h r refl

zero-says : (D : Type 0) (P : Refusal → Type 0) (a : Answer) → Says D P a → (told a).number ≡ 0 → D
unfolding Says told
zero-says D P (Key k) s e = s
zero-says D P (Arc x d) s e = s
zero-says D P (Mark n) s e = s
zero-says D P (Arity n) s e = s
zero-says D P Done s e = s
zero-says D P (Refused r) s e = absurd (refused-number r e)

false-T : {b : Bool} → b ≡ false → T (not b)
false-T e = subst (λ (b : Bool). T (not b)) (sym e) tt

-- ---- a test of a call, passed and not passed

past : (b : Bool) (x y : Step) → T b → cond (not b) x y ≡ y
past true x y h = refl
past false x y h = absurd h

stopped : (b : Bool) (x y : Step) → T (not b) → cond (not b) x y ≡ x
stopped true x y h = absurd h
stopped false x y h = refl

pub not-accepted : (a : Answer) (r : Refusal) → a ≡ Refused r → T (not (accepted a))
unfolding accepted
not-accepted a r e = subst (λ (x : Answer). T (not (accepted x))) (sym e) tt

-- ---- where a call ends

module _ (m : Mesh) (c : Made) where
  abbrev e : Edit
  e = c.edit

  abbrev keys : List ℕ
  keys = c.keys

  abbrev w : Step
  w = work m e keys

  -- what the call leaves, by its first test
  abbrev left_by : Bool → Outcome
  left_by b = cond b (outcome (decided m e keys).answer (kept m (decided m e keys)) (zeroed c.one) (zeroed c.two)) (outcome (Refused Tables) m c.one c.two)

  -- what is said of its answer
  abbrev Ends : Answer → Type 0
  Ends a = Says (ResultStands m c) (GivenWhen m c) a

  by-rust : (r : Refusal) → InMidEdit r → ByRust m c r → GivenWhen m c r
  unfolding GivenWhen
  by-rust r three b = b
  by-rust r four b = b
  by-rust r five b = b
  by-rust r thirteen b = b

  of-checks : (r : Refusal) → OfChecks e r → AtChecks m c → checks m e keys ≡ Refused r → GivenWhen m c r
  unfolding GivenWhen
  of-checks r (as-in-mid-edit i) at z = by-rust r i (by-checks at z)
  of-checks r (six b) at z = record { a-bridge = b; at-checks = at; refused = z }

  worked-ends : AtWork m c → Ends (worked w).answer
  unfolding worked last_step Says GivenWhen
  worked-ends at = go (accepted w.answer) refl (sound w.tables) refl
    where
      result : accepted w.answer ≡ true → AtResult m c
      result p = record { at-work = at; work-accepted = true-T p }

      go : (x : Bool) → accepted w.answer ≡ x → (y : Bool) → sound w.tables ≡ y → Ends (cond x (cond y w (stops w.tables WouldBreak)) w).answer
      go true p true q = says-accepted (ResultStands m c) (GivenWhen m c) w.answer p (record { at-result = result p; is-sound = true-T q })
      go true p false q = record { at-result = result p; not_sound = false-T q }
      go false p y q = says-refused (ResultStands m c) (GivenWhen m c) w.answer p (λ r z. by-rust r (refusals-of-work m e keys r z) (in-mid-edit at z))

  decided-ends : T (ready m c.one c.two) → Ends (decided m e keys).answer
  unfolding decided Says GivenWhen
  decided-ends t = go (given e keys) refl (accepted (checks m e keys)) refl (moves_finite m e) refl (room_for m (need m e keys)) refl
    where
      at-checks : given e keys ≡ true → AtChecks m c
      at-checks p = record { is-ready = t; fit = true-T p }

      at-moves : given e keys ≡ true → accepted (checks m e keys) ≡ true → AtMoves m c
      at-moves p q = record { at-checks = at-checks p; checks-passed = true-T q }

      go : (x : Bool) → given e keys ≡ x → (y : Bool) → accepted (checks m e keys) ≡ y → (z : Bool) → moves_finite m e ≡ z → (u : Bool) → room_for m (need m e keys) ≡ u → Ends (cond (not x) (stops m Argument) (cond (not y) (step m (checks m e keys)) (cond (not z) (stops m Argument) (cond (not u) (stops m NoRoom) (worked w))))).answer
      go false p y q z s u v = inl (record { is-ready = t; not-fit = false-T p })
      go true p false q z s u v = says-refused (ResultStands m c) (GivenWhen m c) (checks m e keys) q (λ r k. of-checks r (refusals-of-checks m e keys r k) (at-checks p) k)
      go true p true q false s u v = inr (record { at-moves = at-moves p q; not_finite = false-T s })
      go true p true q true s false v = record { at-need = record { at-moves = at-moves p q; moves-finite = true-T s }; not-met = false-T v }
      go true p true q true s true v = worked-ends (record { at-need = record { at-moves = at-moves p q; moves-finite = true-T s }; need-met = true-T v })

  -- every call ends so: accepted, or refused where that refusal is given
  pub ends : Ends (answer m c)
  unfolding called Says GivenWhen
  ends = go (ready m c.one c.two) refl
    where
      go : (x : Bool) → ready m c.one c.two ≡ x → Ends (left_by x).answer
      go true p = decided-ends (true-T p)
      go false p = false-T p

  -- ---- how far a call comes

  abbrev from_result : Step
  from_result = cond (sound w.tables) w (stops w.tables WouldBreak)

  abbrev from_need : Step
  from_need = cond (not (room_for m (need m e keys))) (stops m NoRoom) (worked w)

  abbrev from_moves : Step
  from_moves = cond (not (moves_finite m e)) (stops m Argument) from_need

  abbrev from_checks : Step
  from_checks = cond (not (accepted (checks m e keys))) (step m (checks m e keys)) from_moves

  abbrev from_given : Step
  from_given = cond (not (given e keys)) (stops m Argument) from_checks

  -- past 1 it is decided
  outcome-decided : T (ready m c.one c.two) → called m c.one c.two (call e) keys ≡ left_by true
  unfolding called
  outcome-decided h = ap left_by (T_true (ready m c.one c.two) h)

  answer-decided : (s : Step) → T (ready m c.one c.two) → decided m e keys ≡ s → answer m c ≡ s.answer
  answer-decided s h q = ap (λ (o : Outcome). o.answer) (outcome-decided h) ∙ ap (λ (t : Step). t.answer) q

  given-comes : decided m e keys ≡ from_given
  unfolding decided
  given-comes = refl

  checks-come : AtChecks m c → decided m e keys ≡ from_checks
  checks-come h = given-comes ∙ past (given e keys) (stops m Argument) from_checks h.fit

  moves-come : AtMoves m c → decided m e keys ≡ from_moves
  moves-come h = checks-come h.at-checks ∙ past (accepted (checks m e keys)) (step m (checks m e keys)) from_moves h.checks-passed

  need-comes : AtNeed m c → decided m e keys ≡ from_need
  need-comes h = moves-come h.at-moves ∙ past (moves_finite m e) (stops m Argument) from_need h.moves-finite

  work-comes : AtWork m c → decided m e keys ≡ worked w
  work-comes h = need-comes h.at-need ∙ past (room_for m (need m e keys)) (stops m NoRoom) (worked w) h.need-met

  work-as : (b : Bool) → accepted w.answer ≡ b → worked w ≡ cond b from_result w
  unfolding worked last_step
  work-as b q = ap (λ (x : Bool). cond x from_result w) q

  result-comes : AtResult m c → decided m e keys ≡ from_result
  result-comes h = work-comes h.at-work ∙ work-as true (T_true (accepted w.answer) h.work-accepted)

  is-ready : AtNeed m c → T (ready m c.one c.two)
  is-ready h = h.at-moves.at-checks.is-ready

  -- ---- where a refusal is given, the call is so refused

  rust-refuses : (r : Refusal) → ByRust m c r → answer m c ≡ Refused r
  rust-refuses r (by-checks at z) =
      answer-decided (step m (checks m e keys)) at.is-ready (checks-come at ∙ stopped (accepted (checks m e keys)) (step m (checks m e keys)) from_moves (not-accepted (checks m e keys) r z)) ∙ z
  rust-refuses r (in-mid-edit at z) =
      answer-decided w (is-ready at.at-need) (work-comes at ∙ work-as false (T_false (accepted w.answer) (not-accepted w.answer r z))) ∙ z

  refused-so : (r : Refusal) → GivenWhen m c r → answer m c ≡ Refused r
  unfolding called GivenWhen
  refused-so Tables h = ap (λ (b : Bool). (left_by b).answer) (T_false (ready m c.one c.two) h)
  refused-so Argument (inl h) = answer-decided (stops m Argument) h.is-ready (given-comes ∙ stopped (given e keys) (stops m Argument) from_checks h.not-fit)
  refused-so Argument (inr h) = answer-decided (stops m Argument) h.at-moves.at-checks.is-ready (moves-come h.at-moves ∙ stopped (moves_finite m e) (stops m Argument) from_need h.not_finite)
  refused-so TopologyMalformed h = rust-refuses TopologyMalformed h
  refused-so TopologyNotFound h = rust-refuses TopologyNotFound h
  refused-so TopologyConflict h = rust-refuses TopologyConflict h
  refused-so ArityNonUniform h = rust-refuses ArityNonUniform (by-checks h.at-checks h.refused)
  refused-so NoRoom h = answer-decided (stops m NoRoom) (is-ready h.at-need) (need-comes h.at-need ∙ stopped (room_for m (need m e keys)) (stops m NoRoom) (worked w) h.not-met)
  refused-so WouldBreak h =
      answer-decided (stops w.tables WouldBreak) (is-ready h.at-result.at-work.at-need) (result-comes h.at-result ∙ ap (λ (b : Bool). cond b w (stops w.tables WouldBreak)) (T_false (sound w.tables) h.not_sound))
  refused-so SamePlace h = rust-refuses SamePlace h

  -- ---- where it is accepted, it answers as the edit's work does and leaves what the work made

  result-stands : ResultStands m c → decided m e keys ≡ w
  result-stands h = result-comes h.at-result ∙ ap (λ (b : Bool). cond b w (stops w.tables WouldBreak)) (T_true (sound w.tables) h.is-sound)

  pub stands-as : ResultStands m c → answer m c ≡ w.answer
  stands-as h = answer-decided w (is-ready h.at-result.at-work.at-need) (result-stands h)

  pub stands-left : ResultStands m c → (called m c.one c.two (call e) keys).mesh ≡ w.tables
  unfolding kept
  stands-left h =
      ap (λ (o : Outcome). o.mesh) (outcome-decided (is-ready h.at-result.at-work.at-need))
      ∙ ap (kept m) (result-stands h)
      ∙ ap (λ (b : Bool). cond b w.tables m) (T_true (accepted w.answer) h.at-result.work-accepted)

  -- ---- the table of answer numbers

  -- every refusal's number is given exactly when document 01 says
  pub exactly : (r : Refusal) → ((told (answer m c)).number ≡ number_of r) ↔ GivenWhen m c r
  exactly r =
      (λ n. refusal-says (ResultStands m c) (GivenWhen m c) (answer m c) r ends (answer-of (answer m c) r n), λ h. ap (λ (a : Answer). (told a).number) (refused-so r h) ∙ number-told r)

  -- 0 exactly when every test before the work is passed, the work is accepted and its tables are sound
  pub zero-exactly : ((told (answer m c)).number ≡ 0) ↔ ResultStands m c
  zero-exactly = (zero-says (ResultStands m c) (GivenWhen m c) (answer m c) ends, λ h. accepted-zero (answer m c) (ap accepted (stands-as h) ∙ T_true (accepted w.answer) h.at-result.work-accepted))

  -- 2 exactly when the call is ready and either what the caller gave is not fit, or the checks are passed and a moved coordinate is not finite
  pub two-exactly : ((told (answer m c)).number ≡ 2) ↔ (NotFit m c ⊎ NotFinite m c)
  unfolding number_of GivenWhen
  two-exactly = exactly Argument

  -- 7 exactly when the call is ready, what was given is fit, the checks are passed, moved coordinates are finite, and free rows are fewer than the
  -- need or a key above 4,294,967,294 is needed
  pub seven-exactly : ((told (answer m c)).number ≡ 7) ↔ NeedNotMet m c
  unfolding number_of GivenWhen
  seven-exactly = exactly NoRoom

  -- 8 exactly when all that is passed, there is room for the need, nothing is refused in mid-edit, and the result is not sound
  pub eight-exactly : ((told (answer m c)).number ≡ 8) ↔ ResultBreaks m c
  unfolding number_of GivenWhen
  eight-exactly = exactly WouldBreak

  -- 3, 4 and 5 exactly when the Rust gives them: by its checks before its first change, or in mid-edit. 6 only to a bridge, by its checks
  pub three-exactly : ((told (answer m c)).number ≡ 3) ↔ ByRust m c TopologyMalformed
  unfolding number_of GivenWhen
  three-exactly = exactly TopologyMalformed

  pub four-exactly : ((told (answer m c)).number ≡ 4) ↔ ByRust m c TopologyNotFound
  unfolding number_of GivenWhen
  four-exactly = exactly TopologyNotFound

  pub five-exactly : ((told (answer m c)).number ≡ 5) ↔ ByRust m c TopologyConflict
  unfolding number_of GivenWhen
  five-exactly = exactly TopologyConflict

  -- 13 exactly when these checks give it, or in mid-edit
  pub thirteen-exactly : ((told (answer m c)).number ≡ 13) ↔ ByRust m c SamePlace
  unfolding number_of GivenWhen
  thirteen-exactly = exactly SamePlace

  pub six-exactly : ((told (answer m c)).number ≡ 6) ↔ Uneven m c
  unfolding number_of GivenWhen
  six-exactly = exactly ArityNonUniform

-- and so for the nine public calls
pub public-answers : (m : Mesh) (one two : Room) → PublicAnswers m one two
unfolding vertex_insert face_insert face_remove face_split face_poke face_bridge face_extrude arc_bridge_call arc_extrude
public-answers m one two =
    record {
      vertex-insert = λ p. refl;
      face-insert = λ keys mark. refl;
      face-remove = λ f. refl;
      face-split = λ f s d. refl;
      face-poke = λ f p. refl;
      face-bridge = λ f g. refl;
      face-extrude = λ f move. refl;
      arc-bridge = λ a b c d. refl;
      arc-extrude = λ s d move. refl;
    }
