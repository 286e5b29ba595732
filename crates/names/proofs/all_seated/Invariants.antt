use Rattle.names.proofs.Loops.{Passed}
use Rattle.names.specs.Slots.{finds}
use Rattle.names.proofs.all_seated.Given as goal

abbrev pub invariant-loop-row : goal.invariant-loop-row
invariant-loop-row l = Passed (finds l.slots l.names l.part) l.row
