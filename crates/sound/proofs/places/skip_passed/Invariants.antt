-- `sound::places::skip_passed` meets its contract. The loop keeps that every row gone through passes. Assumes nothing.
use Prim.Native.Nat.{◌-◌}
use Rattle.sound.specs.Parts.{PlacedTo}
use Rattle.sound.proofs.places.skip_passed.Given as goal

abbrev pub invariant-loop-i : goal.invariant-loop-i
invariant-loop-i l = PlacedTo l.vertices l.positions l.n l.i

abbrev pub decreases-loop-i : goal.decreases-loop-i
decreases-loop-i l = l.n - l.i
