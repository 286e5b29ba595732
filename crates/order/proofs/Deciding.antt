-- What is decided before the first change, test by test, in document 01's order; and whether a call can begin.
use mathlib.Core.Path.{◌≡◌, refl, ap, sym, ◌∙◌}
use mathlib.Core.Bool.{Bool, true, false, ◌&&◌}
use mathlib.Core.List.{List}
use Prim.Native.Nat.{ℕ}
use Rattle.rules.specs.Answer.{Done, Refused}
use Rattle.rules.specs.declared.Refusal.{Refusal}
use Rattle.rules.specs.declared.Refusal.TheVariants.{Argument, NoRoom}
use Rattle.rules.specs.declared.Edit.{Edit}
use Rattle.rules.specs.Mesh.{Mesh, Room}
use Rattle.rules.specs.Step.{accepted}
use Rattle.rules.specs.Sound.{sound}
use Rattle.rules.specs.Call.{given, checks, moves_finite, room_for, need, ready, room_enough}
use Rattle.order.specs.Transaction.{before_work}

module _ (m : Mesh) (e : Edit) (keys : List ℕ) where
  pub not-given : given e keys ≡ false → Refused Argument ≡ before_work m e keys
  unfolding before_work
  not-given g = rw g

  module _ (g : given e keys ≡ true) where
    pub checks-refuse : {r : Refusal} → Refused r ≡ checks m e keys → Refused r ≡ before_work m e keys
    unfolding before_work accepted
    checks-refuse h = h ∙ rw (g, ap accepted (sym h))

    module _ (a : Done ≡ checks m e keys) where
      passed : accepted (checks m e keys) ≡ true
      unfolding accepted
      passed = ap accepted (sym a)

      pub not-moves : moves_finite m e ≡ false → Refused Argument ≡ before_work m e keys
      unfolding before_work
      not-moves f = rw (g, passed, f)

      module _ (f : moves_finite m e ≡ true) where
        pub not-room : room_for m (need m e keys) ≡ false → Refused NoRoom ≡ before_work m e keys
        unfolding before_work
        not-room r = rw (g, passed, f, r)

        pub all-passed : room_for m (need m e keys) ≡ true → Done ≡ before_work m e keys
        unfolding before_work
        all-passed r = rw (g, passed, f, r)

-- ---- whether a call can begin

and-false : (b : Bool) → false ≡ (b && false)
and-false true = refl
and-false false = refl

and-true : (b : Bool) → b ≡ (b && true)
and-true true = refl
and-true false = refl

module _ (m : Mesh) (one two : Room) where
  pub rooms-first : (room_enough m one && room_enough m two) ≡ true → sound m ≡ ready m one two
  unfolding ready
  rooms-first e = rw e (and-true (sound m))

  pub rooms-short : (room_enough m one && room_enough m two) ≡ false → false ≡ ready m one two
  unfolding ready
  rooms-short e = rw e (and-false (sound m))
