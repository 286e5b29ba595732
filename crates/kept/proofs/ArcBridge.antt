-- An arc bridge: its checks let pass only corners that are a perimeter, and it is the insert of its four corners. So the need of that insert
-- suffices.
use Prim.Native.Nat.{ℕ, zero, suc, ◌≤◌, ◌<◌}
use native.Mathlib.Omega.{arith}
use native.Mathlib.Decide.{ℕ_discrete}
use mathlib.Core.Path.{◌≡◌, refl}
use mathlib.Core.Bool.{Bool, true, false, ◌||◌, cond}
use mathlib.Core.List.{List}
use lib.ListN.{length}
use lib.Dec.{T, eqb}
use borrow.Author.Tests.{ne_eqb, eq-eqb}
use Rattle.rules.specs.Answer.{Refused}
use Rattle.rules.specs.declared.Refusal.TheVariants.{TopologyNotFound, TopologyConflict}
use Rattle.rules.specs.Table.{some_below}
use Rattle.rules.specs.Mesh.{Mesh}
use Rattle.rules.specs.Step.{accepted}
use Rattle.rules.specs.Insert.{has_face, insert_checks}
use Rattle.rules.specs.Edit.{corners, arc_bridge_checks, arc_bridge_work}
use Rattle.rules.specs.Call.{insert_need, pairs_without}
use Rattle.proved.specs.Facts.{IsVertex, IsArc}
use Rattle.kept.specs.Frame.{AllButRings, ThreeCounters, Met}
use Rattle.kept.specs.Perimeter.{Perimeter, corner}
use Rattle.makers.specs.Makers.{Makers, LikeRules, arc_bridge_work_by}
use Rattle.kept.proofs.Passed.{Passed, passed, places-apart}
use Rattle.kept.proofs.EdgesIn.{need_at}
use Rattle.kept.proofs.Pairs.{at_most_one, has-arc, two-needed}
use Rattle.kept.proofs.WithinNeed.{Made, insert-made}

-- the checks of an arc bridge that pass
pub record BridgePassed (m : Mesh) (x y : ℕ) : Type 0 where
  pub first-known : x ≡ 0 → ⊥
  pub second-known : y ≡ 0 → ⊥
  pub insert-passed : Passed m (corners m x y) (corners m x y)

pub bridge-passed : (m : Mesh) (x y : ℕ) → T (accepted (arc_bridge_checks m x y)) → BridgePassed m x y
unfolding arc_bridge_checks accepted
bridge-passed m x y h = go (ℕ_discrete x 0) (ℕ_discrete y 0) (some_below (has_face m per) (length per)) h
  where
    per : List ℕ
    per = corners m x y

    go : Dec (x ≡ 0) → Dec (y ≡ 0) → (b : Bool) → T (accepted (cond (eqb x 0 || eqb y 0) (Refused TopologyNotFound) (cond b (Refused TopologyConflict) (insert_checks m per per)))) → BridgePassed m x y
    go (yes e) d b q = absurd (rw (eq-eqb x 0 e) at q)
    go (no n) (yes e) b q = absurd (rw (ne_eqb x 0 n, eq-eqb y 0 e) at q)
    go (no n) (no o) true q = absurd (rw (ne_eqb x 0 n, ne_eqb y 0 o) at q)
    go (no n) (no o) false q = record { first-known = n; second-known = o; insert-passed = passed m per per (rw (ne_eqb x 0 n, ne_eqb y 0 o) at q) }

pub corners-perimeter : (m : Mesh) → AllButRings m → (x y : ℕ) → IsArc m x → IsArc m y → Passed m (corners m x y) (corners m x y) → Perimeter m (corners m x y)
unfolding corners
corners-perimeter m s x y u v q =
    record { at-least-3 = q.at-least-3; at-most-64 = omega arith; vertices = ends; differ = places-apart (corners m x y) q.keys-differ }
  where
    ends : (i : ℕ) → i < length (corners m x y) → IsVertex m (corner (corners m x y) i)
    ends zero l = (s.ends-exist x u).0
    ends (suc zero) l = (s.ends-exist x u).1
    ends (suc (suc zero)) l = (s.ends-exist y v).0
    ends (suc (suc (suc zero))) l = (s.ends-exist y v).1
    ends (suc (suc (suc (suc i)))) l = let z : ⊥ = omega arith in absurd z

-- the two arcs are there, so two edges at most are needed
pub corners-need : (m : Mesh) → AllButRings m → (x y : ℕ) → IsArc m x → IsArc m y → pairs_without m (corners m x y) ≤ 2
unfolding corners
corners-need m s x y u v = omega (arith, two-needed m per 1 3 none, at_most_one m per 1, at_most_one m per 3)
  where
    per : List ℕ
    per = corners m x y

    small : length m.arcs ≤ 16384
    small = omega (arith, s.sizes.arc-rows, s.sizes.edge-rows)

    none : (i : ℕ) → i < length per → (i ≡ 1 → ⊥) → (i ≡ 3 → ⊥) → need_at m per i ≡ 0
    none zero l a b = has-arc m per 0 small x (record { exists = u; leaves = refl; arrives = refl })
    none (suc zero) l a b = absurd (a refl)
    none (suc (suc zero)) l a b = has-arc m per 2 small y (record { exists = v; leaves = refl; arrives = refl })
    none (suc (suc (suc zero))) l a b = absurd (b refl)
    none (suc (suc (suc (suc i)))) l a b = let z : ⊥ = omega arith in absurd z

-- the need of an arc bridge suffices
pub arc-bridge-made : (m : Mesh) → AllButRings m → ThreeCounters m → (x y : ℕ) → IsArc m x → IsArc m y → BridgePassed m x y → Met m (insert_need m (corners m x y)) → (by : Makers) → LikeRules by → Made m (insert_need m (corners m x y)) 0 (arc_bridge_work m x y) (arc_bridge_work_by by m x y)
unfolding arc_bridge_work arc_bridge_work_by
arc-bridge-made m s k x y u v q w by like = insert-made m s (corners m x y) (corners-perimeter m s x y u v q.insert-passed) k w 0 by like
