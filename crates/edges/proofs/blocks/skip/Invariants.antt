-- The rows gone through are used.
use Prim.Native.Nat.{◌-◌}
use lib.ListN.{length}
use Rattle.edges.specs.Free.{UsedUpTo}
use Rattle.edges.proofs.blocks.skip.Given as goal

abbrev pub invariant-loop-i : goal.invariant-loop-i
invariant-loop-i g l = UsedUpTo l.rows l.from l.i

abbrev pub decreases-loop-i : goal.decreases-loop-i
decreases-loop-i g l = length l.rows - l.i
