-- `nearby::rings::new_rings` meets its contract. The loop keeps that the rings of the new faces passed return. Assumes nothing.
use Rattle.names.proofs.Loops.{Passed}
use Rattle.nearby.proofs.RingTests.{new_at}
use Rattle.nearby.proofs.rings.new_rings.Given as goal

abbrev pub invariant-loop-i : goal.invariant-loop-i
invariant-loop-i l = Passed (new_at l.arcs l.faces l.from) l.i
