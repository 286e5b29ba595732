-- The first i rows are copied, and the rest is as it was.
use mathlib.Core.Path.{◌≡◌}
use Prim.Native.Nat.{min}
use lib.ListN.{length}
use Rattle.tables.proofs.Lists.{upto}
use Rattle.tables.proofs.sets.copy.Given as goal

abbrev pub invariant-loop-i : goal.invariant-loop-i
invariant-loop-i g l = (length l.to ≡ length l.initial.to) × (l.n ≡ min (length l.initial.to) (length l.from)) × (l.to ≡ upto l.from l.i l.initial.to)
