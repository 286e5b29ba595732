-- For the runs of rows that hold a face: the rows of a run pass, and each counts one.
use Prim.Native.Nat.{ℕ, ◌+◌, ◌-◌, ◌≤◌, ◌<◌}
use native.Mathlib.Omega.{arith}
use mathlib.Core.Path.{◌≡◌, refl, sym, subst}
use mathlib.Core.Bool.{Bool, true, false, ◌&&◌}
use mathlib.Core.List.{[]}
use lib.ListN.{length, get_or}
use lib.Dec.{T}
use Rattle.rules.specs.Table.{Table, used}
use Rattle.proved.specs.Demand.{holds_some}
use Rattle.tables.proofs.Runs.{one-row, join_runs, over-run}
use Rattle.tables.proofs.Scans.{Counted, counted-one}
use Rattle.names.proofs.Loops.{Passed, one_more}
use Rattle.sound.specs.Tests.{arc_test}
use Rattle.sound.specs.Parts.{AllHold, HeldTo}
use Rattle.sound.proofs.Rows.{holder-passes}

-- two tests that pass together: the first passes, and the second
pub and_first : (a b : Bool) → (a && b) ≡ true → a ≡ true
and_first true b e = refl
and_first false b e = e

pub and_second : (a b : Bool) → (a && b) ≡ true → b ≡ true
and_second true b e = e
and_second false b e = let z : ⊥ = subst T (sym e) tt in absurd z

module _ (arcs : Table) where
  -- every row below k passes, so many of them are arcs, and so many hold a face
  abbrev pub Told : ℕ → ℕ → ℕ → Type 0
  Told there held k = Passed (λ j. arc_test arcs (get_or arcs j [])) k × (Counted used arcs [] there k × Counted holds_some arcs [] held k)

  told-one : (there held k : ℕ) → k < length arcs → holds_some (get_or arcs k []) ≡ true → Told there held k → Told (there + 1) (held + 1) (k + 1)
  told-one there held k l e h =
      let p = holder-passes arcs (get_or arcs k []) e in
      (one_more (λ j. arc_test arcs (get_or arcs j [])) k h.0 p.0, (counted-one used arcs [] there k l p.1 h.1.0, counted-one holds_some arcs [] held k l e h.1.1))

  -- a run from row i: of the arcs before it, so many hold a face, and so many are loose
  module _ (held loose i r : ℕ) (e : holds_some (get_or arcs i []) ≡ true) (run : HeldTo arcs (i + 1) r) where
    abbrev ToldAt : ℕ → Type 0
    ToldAt k = Told (held + (k - i) + loose) (held + (k - i)) k

    all_hold : AllHold arcs i r
    all_hold = join_runs _ i (i + 1) r (one-row _ i e) run.1.1

    told_more : (k : ℕ) → i ≤ k → k < r → ToldAt k → ToldAt (k + 1)
    told_more k a l h =
        let n : held + (k + 1 - i) + loose ≡ held + (k - i) + loose + 1 = omega arith in
        let m : held + (k + 1 - i) ≡ held + (k - i) + 1 = omega arith in
        rw (n, m) (told-one (held + (k - i) + loose) (held + (k - i)) k (omega (arith, run.1.0)) (all_hold k a l) h)

    pub told-run : Told (held + loose) held i → Told (held + (r - i) + loose) (held + (r - i)) r
    told-run h =
        let z : held + (i - i) ≡ held = omega arith in
        over-run ToldAt i r (omega (arith, run.0)) told_more (rw z h)
