-- `sound::holders::skip_blocks` meets its contract. The loop keeps that every row gone through holds a face; laws of Runs. Assumes nothing.
use Prim.Native.Nat.{◌-◌}
use lib.ListN.{length}
use Rattle.sound.specs.Parts.{HeldTo}
use Rattle.sound.proofs.holders.skip_blocks.Given as goal

abbrev pub invariant-loop-i : goal.invariant-loop-i
invariant-loop-i l = HeldTo l.arcs l.from l.i

abbrev pub decreases-loop-i : goal.decreases-loop-i
decreases-loop-i l = length l.arcs - l.i
