-- Tests of rings as the code makes them: what each loop over them keeps, and how it ends.
use Prim.Native.Nat.{ℕ, suc, ◌+◌, ◌-◌, ◌≤◌, ◌<◌}
use native.Mathlib.Omega.{arith}
use mathlib.Core.Path.{◌≡◌}
use mathlib.Core.Bool.{Bool, true, false}
use mathlib.Core.List.{[]}
use lib.ListN.{get_or}
use borrow.Author.Tests.{eq-eqb, ne_eqb}
use Rattle.rules.specs.Table.{Table, cell}
use Rattle.nearby.specs.Rings.{held_at, walked_from, new_ring}

-- ---- the walk along a new ring

module _ (arcs : Table) (g first k x : ℕ) where
  -- an arc that is not on the ring
  pub walk-leaves : k < 64 → held_at arcs g x ≡ false → walked_from arcs g first (64 - k) x ≡ false
  unfolding walked_from
  walk-leaves l h = let fuel : 64 - k ≡ suc (64 - (k + 1)) = omega arith in rw (fuel, h)

  -- one whose next is the first
  pub walk-returns : k < 64 → held_at arcs g x ≡ true → cell arcs x 2 ≡ first → walked_from arcs g first (64 - k) x ≡ true
  unfolding walked_from
  walk-returns l h e = let fuel : 64 - k ≡ suc (64 - (k + 1)) = omega arith in rw (fuel, h, eq-eqb (cell arcs x 2) first e)

  -- another
  pub walk-goes : k < 64 → held_at arcs g x ≡ true → (cell arcs x 2 ≡ first → ⊥) → walked_from arcs g first (64 - k) x ≡ walked_from arcs g first (64 - (k + 1)) (cell arcs x 2)
  unfolding walked_from
  walk-goes l h ne = let fuel : 64 - k ≡ suc (64 - (k + 1)) = omega arith in rw (fuel, h, ne_eqb (cell arcs x 2) first ne)

  -- no arc is left
  pub walk_ends : 64 ≤ k → walked_from arcs g first (64 - k) x ≡ false
  unfolding walked_from
  walk_ends l = let fuel : 64 - k ≡ 0 = omega arith in rw fuel

-- ---- new faces

-- the ring of the face in a row
abbrev pub new_at : Table → Table → ℕ → ℕ → Bool
new_at arcs faces from i = new_ring arcs from (get_or faces i []) (i + 1)
