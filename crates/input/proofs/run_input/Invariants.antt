-- It is the same mesh, and the same rooms.
use Rattle.rules.specs.Lent.{SameMesh, SameRoom}
use Rattle.input.proofs.run_input.Given as goal

abbrev pub invariant-loop : goal.invariant-loop
invariant-loop g l = SameMesh l.initial.mesh l.mesh × SameRoom l.initial.room1 l.room1 × SameRoom l.initial.room2 l.room2
