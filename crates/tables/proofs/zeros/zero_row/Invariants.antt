-- `tables::zeros::zero_row` meets its contract. The loop keeps that, where all tests so far passed, the cells gone through are 0. Assumes nothing.
use Prim.Native.Nat.{ℕ, ◌<◌}
use mathlib.Core.Path.{◌≡◌}
use mathlib.Core.Bool.{true}
use lib.ListN.{get_or}
use Rattle.tables.proofs.zeros.zero_row.Given as goal

abbrev pub invariant-loop-x : goal.invariant-loop-x
invariant-loop-x g l = l.zero ≡ true → (k : ℕ) → k < l.x-index → get_or l.row k 0 ≡ 0
