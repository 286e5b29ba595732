-- The checks of a face insert in two halves: those before any arc is looked for, then the conflicts.
use Prim.Native.Nat.{ℕ}
use mathlib.Core.Path.{◌≡◌, refl, ap, sym, ◌∙◌}
use mathlib.Core.Bool.{Bool, true, false, cond, false≢true}
use mathlib.Core.List.{List}
use Rattle.rules.specs.Answer.{Answer}
use Rattle.rules.specs.Answer.{Done, Refused}
use Rattle.rules.specs.declared.Refusal.{Refusal}
use Rattle.rules.specs.declared.Refusal.TheVariants.{TopologyMalformed, TopologyNotFound, TopologyConflict, SamePlace}
use Rattle.rules.specs.Table.{has}
use Rattle.rules.specs.Mesh.{Mesh}
use Rattle.rules.specs.Step.{accepted}
use Rattle.checks.specs.Named.{named_so}
use Rattle.rules.specs.Insert.{has_hair, malformed, conflict, insert_checks}

-- by the three tests of the first half, and by the conflicts
abbrev first : Bool → Bool → Bool → Answer
first a b h = cond a (Refused TopologyMalformed) (cond b (Refused TopologyNotFound) (cond h (Refused SamePlace) Done))

abbrev all : Bool → Bool → Bool → Bool → Answer
all a b h c = cond a (Refused TopologyMalformed) (cond b (Refused TopologyNotFound) (cond h (Refused SamePlace) (cond c (Refused TopologyConflict) Done)))

refused : (a b h c : Bool) {r : Refusal} → Refused r ≡ first a b h → Refused r ≡ all a b h c
unfolding accepted
refused true b h c e = e
refused false true h c e = e
refused false false true c e = e
refused false false false c e = absurd (false≢true (ap accepted e))

passed : (a b h c : Bool) → Done ≡ first a b h → cond c (Refused TopologyConflict) Done ≡ all a b h c
unfolding accepted
passed true b h c e = absurd (false≢true (sym (ap accepted e)))
passed false true h c e = absurd (false≢true (sym (ap accepted e)))
passed false false true c e = absurd (false≢true (sym (ap accepted e)))
passed false false false c e = refl

module _ (m : Mesh) (names per : List ℕ) where
  pub named-refused : {r : Refusal} → Refused r ≡ named_so m names per → Refused r ≡ insert_checks m names per
  unfolding insert_checks named_so
  named-refused e = refused (malformed names) (has per 0) (has_hair m per) (conflict m per) e

  pub named-passed : Done ≡ named_so m names per → (c : Bool) → c ≡ conflict m per → cond c (Refused TopologyConflict) Done ≡ insert_checks m names per
  unfolding insert_checks named_so
  named-passed e c h = ap (λ (b : Bool). cond b (Refused TopologyConflict) Done) h ∙ passed (malformed names) (has per 0) (has_hair m per) (conflict m per) e
