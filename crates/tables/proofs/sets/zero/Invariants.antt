-- `tables::sets::zero` meets its contract. The invariant: the first i rows are zero, and the rest is as it was; at the start they were zero before. Assumes nothing.
use Prim.Native.Nat.{◌≤◌}
use mathlib.Core.Path.{◌≡◌}
use lib.ListN.{length, replicate}
use Rattle.tables.proofs.Lists.{fill}
use Rattle.tables.proofs.sets.zero.Given as goal

abbrev pub invariant-loop-i : goal.invariant-loop-i
invariant-loop-i g l = (l.i ≤ length l.initial.to) × (l.to ≡ fill (replicate g.row.N 0) l.i l.initial.to)
