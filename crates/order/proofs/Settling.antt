-- What settling comes to, over plain values: a step over the mesh, and what is answered when the work is done.
use mathlib.Core.Path.{◌≡◌, refl, ap, sym, ◌∙◌}
use mathlib.Core.Bool.{Bool, true, false, cond}
use Rattle.std.specs.Prelude.{Result, Ok, Err}
use Rattle.rules.specs.Answer.{Answer}
use Rattle.rules.specs.Answer.{Refused}
use Rattle.rules.specs.declared.Told.{Told}
use Rattle.rules.specs.declared.Told.TheVariants as Tell
use Rattle.rules.specs.Lent.{given_by, answered}
use Rattle.rules.specs.Mesh.{Mesh, Room, room}
use Rattle.rules.specs.Step.{Step, step, stops, accepted}
use Rattle.rules.specs.Call.{kept, worked, last_step}
use Rattle.rules.specs.Sound.{sound}
use Rattle.rules.specs.declared.Refusal.{Refusal}
use Rattle.rules.specs.declared.Refusal.TheVariants.{WouldBreak}
use Rattle.order.specs.Transaction as T
use Rattle.order.specs.Transaction.{left, SameSize}
use Rattle.tables.specs.Sets.{set_over}
use Rattle.tables.proofs.Lists.{over-same}

-- a refused step leaves the mesh, an accepted one its own tables
pub over-refused : (m : Mesh) (s : Step) → accepted s.answer ≡ false → left s.answer m ≡ T.over m s
unfolding T.over kept
over-refused m s e = rw e

pub over-accepted : (m : Mesh) (s : Step) → accepted s.answer ≡ true → left s.answer s.tables ≡ T.over m s
unfolding T.over kept
over-accepted m s e = rw e

-- ---- 8, and the last step

pub worked-refused : (s : Step) → accepted s.answer ≡ false → worked s ≡ s
unfolding worked
worked-refused s e = rw e

pub worked-broken : (s : Step) → accepted s.answer ≡ true → sound s.tables ≡ false → worked s ≡ stops s.tables WouldBreak
unfolding worked
worked-broken s e h = rw (e, h)

pub worked-done : (s : Step) → accepted s.answer ≡ true → sound s.tables ≡ true → worked s ≡ s
unfolding worked last_step
worked-done s e h = rw (e, h)

-- what the work told is an answer that is accepted
pub is_answer : (t : Told) → accepted (given_by t) ≡ true
unfolding accepted
is_answer (Tell.Key k) = refl
is_answer (Tell.Arc s d) = refl
is_answer (Tell.Mark n) = refl
is_answer (Tell.Arity n) = refl
is_answer Tell.Done = refl

-- the same by what the work told, on the tables m
module _ (m : Mesh) (told : Result Told Refusal) where
  settled-as : (x : Answer) → answered told ≡ x → (s : Step) → worked (step m x) ≡ s → s.answer ≡ (worked (step m (answered told))).answer
  settled-as x e s h = ap (λ (t : Step). t.answer) (sym (ap (λ (a : Answer). worked (step m a)) e ∙ h))

  pub told-refused : {r : Refusal} → told ≡ Err r → Refused r ≡ (worked (step m (answered told))).answer
  unfolding accepted
  told-refused {r} e = settled-as (Refused r) (ap answered e) _ (worked-refused (step m (Refused r)) refl)

  module _ {t : Told} (e : told ≡ Ok t) where
    pub told-accepted : accepted (answered told) ≡ true
    told-accepted = ap (λ (x : Result Told Refusal). accepted (answered x)) e ∙ is_answer t

    pub told-stands : sound m ≡ true → given_by t ≡ (worked (step m (answered told))).answer
    told-stands h = settled-as (given_by t) (ap answered e) _ (worked-done (step m (given_by t)) (is_answer t) h)

    pub told-broken : sound m ≡ false → Refused WouldBreak ≡ (worked (step m (answered told))).answer
    told-broken h = settled-as (given_by t) (ap answered e) _ (worked-broken (step m (given_by t)) (is_answer t) h)

-- the tables are the work's, whatever is answered
worked-tables : (s : Step) → (worked s).tables ≡ s.tables
unfolding worked last_step
worked-tables s = go (accepted s.answer) (sound s.tables)
  where
    go : (a b : Bool) → (cond a (cond b s (stops s.tables WouldBreak)) s).tables ≡ s.tables
    go true true = refl
    go true false = refl
    go false b = refl

-- ---- what is settled: n is what the work made, b the mesh, x the answer

module _ (b n : Mesh) (t x : Answer) (e : x ≡ (worked (step n t)).answer) where
  pub copied-over : accepted x ≡ true → left x n ≡ T.over b (worked (step n t))
  copied-over a = (λ i. left (e i) (sym (worked-tables (step n t)) i)) ∙ over-accepted b (worked (step n t)) (ap accepted (sym e) ∙ a)

  pub left_alone : accepted x ≡ false → left x b ≡ T.over b (worked (step n t))
  left_alone a = ap (λ (y : Answer). left y b) e ∙ over-refused b (worked (step n t)) (ap accepted (sym e) ∙ a)

-- ---- a set copied over another of the same sizes

pub set_same : (r s : Room) → SameSize r s → set_over r s ≡ r
unfolding set_over
set_same r s z i = room (over-same r.vertices s.vertices z.vertices i) (over-same r.positions s.positions z.positions i) (over-same r.arcs s.arcs z.arcs i) (over-same r.edges s.edges z.edges i) (over-same r.faces s.faces z.faces i)
