-- It is the same mesh.
use Rattle.rules.specs.Lent.{SameMesh}
use Rattle.corners.proofs.ask_all.Given as goal

abbrev pub invariant-loop-at : goal.invariant-loop-at
invariant-loop-at g l = SameMesh l.initial.mesh l.mesh
