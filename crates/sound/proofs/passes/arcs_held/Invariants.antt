-- `sound::passes::arcs_held` meets its contract. The loop keeps that every row gone through passes, and how many of them are arcs, and hold a
-- face; laws of HeldRuns and Rows. Assumes nothing.
use Prim.Native.Nat.{◌+◌, ◌-◌, ◌≤◌}
use lib.ListN.{length}
use Rattle.sound.proofs.HeldRuns.{Told}
use Rattle.sound.proofs.passes.arcs_held.Given as goal

abbrev pub invariant-loop-i : goal.invariant-loop-i
invariant-loop-i l = (l.i ≤ length l.arcs) × ((l.held + l.loose ≤ l.i) × Told l.arcs (l.held + l.loose) l.held l.i)

abbrev pub decreases-loop-i : goal.decreases-loop-i
decreases-loop-i l = length l.arcs - l.i
