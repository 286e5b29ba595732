-- `tables::zeros::skip` meets its contract. The loop keeps that the rows gone through are zero; laws of Runs. Assumes nothing.
use Prim.Native.Nat.{◌-◌}
use lib.ListN.{length}
use Rattle.tables.specs.Sets.{ZeroTo}
use Rattle.tables.proofs.zeros.skip.Given as goal

abbrev pub invariant-loop-i : goal.invariant-loop-i
invariant-loop-i g l = ZeroTo g.row.N l.t l.i

abbrev pub decreases-loop-i : goal.decreases-loop-i
decreases-loop-i g l = length l.t - l.i
